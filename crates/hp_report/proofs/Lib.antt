mod Verdicts
mod Places
mod Enumerated
mod Written
