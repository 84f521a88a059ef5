use Rattle.std.proofs.Common.{◌≡◌, ℕ, Bool, List, Option, ap, ◌∙◌}
use Rattle.std.proofs.lemmas.Result.{IfOk-weaker}
use Rattle.hp_elements.specs.declared.token.DoctypeParts.{DoctypeParts}
use Rattle.hp_pieces.proofs.tokens.doctype_of_page.Goals as goal

abbrev these : Option (List ℕ) → Option (List ℕ) → Option (List ℕ) → Bool → DoctypeParts
these name public system force_quirks = record { name = name; public = public; system = system; force_quirks = force_quirks }

same_parts : (parts : DoctypeParts) (name public system : Option (List ℕ)) → name ≡ parts.name → public ≡ parts.public → system ≡ parts.system → these name public system parts.force_quirks ≡ parts
same_parts parts name public system n p s =
    ap (λ (x : Option (List ℕ)). these x public system parts.force_quirks) n ∙ (ap (λ (x : Option (List ℕ)). these parts.name x system parts.force_quirks) p ∙ ap (λ (x : Option (List ℕ)). these parts.name parts.public x parts.force_quirks) s)

pub returns : goal.returns
returns c =
    let parts = c.into_parts-name.result in
    IfOk-weaker c.new.result (λ (own : DoctypeParts). own ≡ these c.in_ok-name.name c.in_ok-public.public c.in_ok-system.system parts.force_quirks) (λ (own : DoctypeParts). own ≡ c.args.doctype)
    (λ own is. is ∙ (same_parts parts c.in_ok-name.name c.in_ok-public.public c.in_ok-system.system c.in_ok-name.ensures c.in_ok-public.ensures c.in_ok-system.ensures ∙ c.into_parts-name.ensures)) c.new.ensures
