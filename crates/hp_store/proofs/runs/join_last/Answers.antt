use Rattle.std.proofs.Common.{ℕ, List, Option, Some, None, IfSome, IfNone}
use Rattle.hp_store.proofs.Texts.{last-joined, last-kept}
use Rattle.hp_store.proofs.runs.join_last.Goals as goal

on-none : (o : Option (List ℕ)) (P Q : Type 0) → (P → Q) → IfNone o P → IfNone o Q
on-none None P Q f h = f h
on-none (Some x) P Q f h = h

on-some : (o : Option (List ℕ)) (P Q : List ℕ → Type 0) → ((x : List ℕ) → P x → Q x) → IfSome o P → IfSome o Q
on-some None P Q f h = h
on-some (Some x) P Q f h = f x h

pub returns-clause-joined : goal.returns-clause-joined
returns-clause-joined c =
    on-none c.join-left.result _ _
    (λ is. last-joined c.args.runs.now c.replace_last-last.new.self c.replace_last.new.self c.replace_last-last.result c.join-left.new.self c.args.text c.requires c.replace_last-last.ensures.value (rw c.new.ensures at c.replace_last-last.ensures.items) c.replace_last.ensures.items is)
    c.join-left.ensures.joined

pub returns-clause-kept : goal.returns-clause-kept
returns-clause-kept c =
    on-some c.join-left.result _ _
    (λ x is. (is.0, last-kept c.args.runs.now c.replace_last-last.new.self c.replace_last.new.self c.replace_last-last.result c.join-left.new.self c.requires c.replace_last-last.ensures.value (rw c.new.ensures at c.replace_last-last.ensures.items) c.replace_last.ensures.items is.1))
    c.join-left.ensures.kept
