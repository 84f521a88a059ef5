-- Acts on small states, with what each comes to by the standard's words.
use Rattle.std.specs.Prelude.{◌≡◌, ℕ, true, false, List, [], ◌∷◌, ◌++◌, map, Some}
use Rattle.hp_elements.specs.Names.{text_of}
use Rattle.hp_elements.specs.declared.known.Known.{Known}
use Rattle.hp_elements.specs.KnownNames as known
use Rattle.hp_elements.specs.declared.kinds.Kinds.TheVariants as kinds
use Rattle.hp_elements.specs.declared.sets.Namespace.TheVariants.{Html}
use Rattle.hp_elements.specs.declared.sets.SetName.TheVariants as sets
use Rattle.hp_elements.specs.declared.tag.Tag.{Tag}
use Rattle.hp_elements.specs.declared.token.Mode.TheVariants as mode
use Rattle.hp_control.specs.declared.edit.Child.TheVariants as child
use Rattle.hp_control.specs.declared.edit.Edit.TheVariants.{NewElement, Put, MoveChildren}
use Rattle.hp_control.specs.declared.edit.Place.TheVariants.{Into, Foster}
use Rattle.hp_control.specs.declared.edit.Ref.TheVariants.{Fixed}
use Rattle.hp_control.specs.declared.element.OpenElement.{OpenElement}
use Rattle.hp_control.specs.declared.element.FormattingEntry.{FormattingEntry}
use Rattle.hp_control.specs.declared.element.FormattingEntry.TheVariants.{Marker, Element}
use Rattle.hp_control.specs.declared.question.Crossing.TheVariants.{X1, X2, X3, X6}
use Rattle.hp_control.specs.Acts.{element_for, insert, pop, pop_to, through_named, clear, append_to_list, reset, pop_template_mode}
use Rattle.hp_control.specs.Adoption.{reconstruct, adopt}
use Rattle.hp_control.specs.Composed.{close_paragraph, close_item, end_form, close_link}
use Rattle.hp_control.specs.Outcome.{becomes, touches}
use Rattle.hp_control.specs.States.{ControlState, start}

abbrev pub tag_of : Known → Tag
tag_of name = record { namespace = Html; name = text_of name; attributes = [] }

abbrev pub opened : ℕ → Known → OpenElement
opened id name = element_for id (tag_of name)

abbrev pub entry : ℕ → Known → FormattingEntry
entry id name = Element id (tag_of name)

-- html and body are open, and above them these; the next id is 9
abbrev pub page : List OpenElement → List FormattingEntry → ControlState
page above list = record start { mode = mode.InBody; stack = above ++ opened 3 known.Body ∷ opened 1 known.Html ∷ []; formatting = list; head = Some 2; next = 9 }

abbrev pub ids : ControlState → List ℕ
ids c = map (λ (e : OpenElement). e.id) c.stack

pub record Examples : Type 0 where
  -- up to and with the nearest p, and nothing where there is none
  pub through : ids (through_named (text_of known.P) (page (opened 6 known.B ∷ opened 5 known.P ∷ opened 4 known.P ∷ []) [])).control ≡ 4 ∷ 3 ∷ 1 ∷ []
  pub through_none : ids (through_named (text_of known.P) (page (opened 4 known.Div ∷ []) [])).control ≡ 4 ∷ 3 ∷ 1 ∷ []
  -- the only element stays
  pub only_stays : pop (record start { stack = opened 1 known.Html ∷ [] }) ≡ record (becomes (record start { stack = opened 1 known.Html ∷ [] })) { spared = true }
  pub down_to_table : ids (pop_to (kinds.Set sets.TableContext) (page (opened 6 known.Tr ∷ opened 5 known.Tbody ∷ opened 4 known.Table ∷ []) [])).control ≡ 4 ∷ 3 ∷ 1 ∷ []
  -- a clearing goes up to the last marker, and empties a list without one
  pub clear_marker : (clear (page [] (entry 5 known.B ∷ Marker ∷ entry 4 known.I ∷ []))).control.formatting ≡ entry 4 known.I ∷ []
  pub clear_all : (clear (page [] (entry 5 known.B ∷ entry 4 known.I ∷ []))).control.formatting ≡ []
  -- out of a table, and not where a template is nearer
  pub fostered : (insert true (tag_of known.B) (page (opened 5 known.Tr ∷ opened 4 known.Table ∷ []) [])).edits ≡ NewElement (tag_of known.B) ∷ Put (child.Element (Fixed 9)) (Foster (Fixed 4) (Fixed 3)) ∷ []
  pub in_template : (insert true (tag_of known.B) (page (opened 6 known.Tr ∷ opened 5 known.Template ∷ opened 4 known.Table ∷ []) [])).edits ≡ NewElement (tag_of known.B) ∷ Put (child.Element (Fixed 9)) (Into (Fixed 5)) ∷ []
  pub unfostered : (insert true (tag_of known.B) (page (opened 5 known.Td ∷ opened 4 known.Table ∷ []) [])).edits ≡ NewElement (tag_of known.B) ∷ Put (child.Element (Fixed 9)) (Into (Fixed 5)) ∷ []
  -- a select in a table, a cell, and a page without anything that decides but its body
  pub reset_select : (reset (page (opened 5 known.Select ∷ opened 4 known.Table ∷ []) [])).control.mode ≡ mode.InSelectInTable
  pub reset_cell : (reset (page (opened 6 known.B ∷ opened 5 known.Td ∷ opened 4 known.Table ∷ []) [])).control.mode ≡ mode.InCell
  pub reset_body : (reset (page (opened 4 known.Div ∷ []) [])).control.mode ≡ mode.InBody
  -- of three equal entries after the last marker the earliest goes
  pub fourth : (append_to_list (tag_of known.B) (page (opened 8 known.B ∷ []) (entry 7 known.B ∷ entry 6 known.I ∷ entry 5 known.B ∷ entry 4 known.B ∷ Marker ∷ entry 3 known.B ∷ []))).control.formatting ≡ entry 8 known.B ∷ entry 7 known.B ∷ entry 6 known.I ∷ entry 5 known.B ∷ Marker ∷ entry 3 known.B ∷ []
  -- a paragraph behind a button is out of reach
  pub paragraph : ids (close_paragraph (page (opened 6 known.Li ∷ opened 5 known.B ∷ opened 4 known.P ∷ []) [])).control ≡ 3 ∷ 1 ∷ []
  pub behind_button : ids (close_paragraph (page (opened 5 known.Button ∷ opened 4 known.P ∷ []) [])).control ≡ 5 ∷ 4 ∷ 3 ∷ 1 ∷ []
  -- an item behind a div is closed, one behind a list isn't
  pub item : ids (close_item (page (opened 6 known.Div ∷ opened 5 known.Li ∷ opened 4 known.Ul ∷ []) [])).control ≡ 4 ∷ 3 ∷ 1 ∷ []
  pub behind_list : ids (close_item (page (opened 6 known.Ul ∷ opened 5 known.Li ∷ []) [])).control ≡ 6 ∷ 5 ∷ 3 ∷ 1 ∷ []
  -- the form leaves the stack from its middle
  pub form : ids (end_form (record (page (opened 5 known.Div ∷ opened 4 known.Form ∷ []) []) { form = Some 4 })).control ≡ 5 ∷ 3 ∷ 1 ∷ []
  pub form_touches : touches (record start { next = 5 }) X3 (end_form (record (page (opened 5 known.Div ∷ opened 4 known.Form ∷ []) []) { form = Some 4 })) ≡ true
  pub form_own : touches (record start { next = 4 }) X3 (end_form (record (page (opened 5 known.Div ∷ opened 4 known.Form ∷ []) []) { form = Some 4 })) ≡ false
  -- the entry of a b that isn't open is made anew
  pub renewed : (reconstruct false (page (opened 5 known.P ∷ []) (entry 4 known.B ∷ []))).control.formatting ≡ entry 9 known.B ∷ []
  pub renewed_edits : (reconstruct false (page (opened 5 known.P ∷ []) (entry 4 known.B ∷ []))).edits ≡ NewElement (tag_of known.B) ∷ Put (child.Element (Fixed 9)) (Into (Fixed 5)) ∷ []
  pub renewed_touches : touches (record start { next = 5 }) X2 (reconstruct false (page (opened 5 known.P ∷ []) (entry 4 known.B ∷ []))) ≡ true
  -- <b><p></b>: the paragraph leaves the b, and a new b takes its children
  pub adopted : ids (adopt false (text_of known.B) (page (opened 5 known.P ∷ opened 4 known.B ∷ []) (entry 4 known.B ∷ []))).control ≡ 5 ∷ 3 ∷ 1 ∷ []
  pub adopted_edits : (adopt false (text_of known.B) (page (opened 5 known.P ∷ opened 4 known.B ∷ []) (entry 4 known.B ∷ []))).edits ≡ Put (child.Element (Fixed 5)) (Into (Fixed 3)) ∷ NewElement (tag_of known.B) ∷ MoveChildren (Fixed 5) (Fixed 9) ∷ Put (child.Element (Fixed 9)) (Into (Fixed 5)) ∷ []
  pub adopted_list : (adopt false (text_of known.B) (page (opened 5 known.P ∷ opened 4 known.B ∷ []) (entry 4 known.B ∷ []))).control.formatting ≡ []
  pub adopted_touches : touches (record start { next = 5 }) X1 (adopt false (text_of known.B) (page (opened 5 known.P ∷ opened 4 known.B ∷ []) (entry 4 known.B ∷ []))) ≡ true
  -- <a>x<a>: the first is closed
  pub link : ids (close_link false (page (opened 4 known.A ∷ []) (entry 4 known.A ∷ []))).control ≡ 3 ∷ 1 ∷ []
  -- the last template mode is older where there is no own one
  pub older_mode : touches (record start { templates = mode.InTemplate ∷ [] }) X6 (pop_template_mode (record start { templates = mode.InTemplate ∷ [] })) ≡ true
  pub own_mode : touches start X6 (pop_template_mode (record start { templates = mode.InTemplate ∷ [] })) ≡ false
