-- No act on the list of active formatting elements, and none of foreign content, reads what a view edited so far.
use Rattle.std.proofs.Common.{◌≡◌, ℕ, zero, suc, ◌-◌, nat_lt, Bool, true, false, List, [], ◌∷◌, Option, None, Some, length, refl, ap, ◌∙◌, slice_get, take}
use Rattle.std.specs.Prelude.{if◌then◌else◌}
use Rattle.std.specs.List.{list_all}
use Rattle.hp_elements.specs.declared.kinds.Kinds.TheVariants as kinds
use Rattle.hp_elements.specs.declared.sets.Namespace.{Namespace}
use Rattle.hp_elements.specs.declared.sets.SetName.TheVariants as sets
use Rattle.hp_elements.specs.declared.tag.Tag.{Tag}
use Rattle.hp_control.specs.declared.edit.Child.TheVariants as child
use Rattle.hp_control.specs.declared.element.FormattingEntry.{FormattingEntry}
use Rattle.hp_control.specs.declared.element.FormattingEntry.TheVariants.{Marker, Element}
use Rattle.hp_control.specs.declared.element.OpenElement.{OpenElement}
use Rattle.hp_control.specs.declared.question.Crossing.TheVariants.{X1}
use Rattle.hp_control.specs.declared.question.EntryKind.{EntryKind}
use Rattle.hp_control.specs.declared.question.EntryKind.TheVariants.{Absent, Closed, Hidden, InScope}
use Rattle.hp_control.specs.Adoption.{Seat, furthest, hides}
use Rattle.hp_control.specs.Composed.{is_white}
use Rattle.hp_control.specs.Faithful.{Split}
use Rattle.hp_control.specs.Foreign.{tag_in}
use Rattle.hp_control.specs.Plan.{Plan, gives, crosses, followed_by}
use Rattle.hp_views.specs.declared.walks.Walk.{Walk}
use Rattle.hp_views.specs.declared.walks.Walk.TheVariants.{Found, Stopped, PastAll}
use Rattle.hp_views.specs.Asking.{ask_listed, ask_quiet}
use Rattle.hp_views.specs.ClosingPlans.{walk_plan}
use Rattle.hp_views.specs.FieldPlans.{frameset_plan, with_change, with_pending}
use Rattle.hp_views.specs.ListPlans.{append_plan, is_there}
use Rattle.hp_views.specs.PlacePlans.{insert_plan, put_plan}
use Rattle.hp_views.specs.RemovePlans.{remove_entry_plan, take_off_plan}
use Rattle.hp_views.specs.StackPlans.{current_is_plan}
use Rattle.hp_views.specs.Walks.{entry_walk, id_walk}
use Rattle.hp_adoption.specs.AdoptPlans.{Turned, adopt_by, adopt_plan, below_depth, block_turn, entry_turn, is_plain_plan, kind_turn, older_turn, own_turn, plain_older, plain_on, stays, turn_on, turn_plan, turns_on, turns_plan, untangle_plan, untangled, walk_turn}
use Rattle.hp_adoption.specs.ArkPlans.{Tally, append_to_list_plan, older_equals, room_by, room_plan, room_with, tally}
use Rattle.hp_adoption.specs.FlushPlans.{flush_by, flush_on, flush_plan, flush_text, foster_text, fostered_text}
use Rattle.hp_adoption.specs.LinkPlans.{a_link, close_link_plan, close_older_by, close_older_plan, close_on, close_own_plan, gone_plan}
use Rattle.hp_adoption.specs.ReconPlans.{recon_below, recon_older, recon_on, reconstruct_plan, relisted, renew_down_plan, renew_on, renew_plan, stale_walk}
use Rattle.hp_foreign.specs.Plans.{in_namespace, insert_as_current_plan, insert_foreign_plan, insert_in_plan, namespace_on, namespace_plan, pop_where_plan}
use Rattle.hp_asked.proofs.Bare.{IsBlind, bare, blind-then, same-then, told_as}
use Rattle.hp_asked.proofs.BareViews.{Alike, insert-blind, placed-blind, pop-blind, put-blind, remove_entry-blind, take_off-blind, through-blind}

-- reconstruction
renewed-on : (fostering : Bool) (depth : ℕ) (o : Option FormattingEntry) (v : Split) → Alike (λ w. renew_on fostering depth w o) v
renewed-on fostering depth None v = refl
renewed-on fostering depth (Some Marker) v = refl
renewed-on fostering depth (Some (Element id tag)) v = insert-blind fostering tag (relisted depth tag v)

renewed-blind : (fostering : Bool) (depth : ℕ) → IsBlind (renew_plan fostering depth)
renewed-blind fostering depth v = renewed-on fostering depth (slice_get v.change.formatting depth) v

down-blind : (fostering : Bool) (depth : ℕ) → IsBlind (renew_down_plan fostering depth)
down-blind fostering zero v = refl
down-blind fostering (suc depth) v = blind-then bare bare (renew_plan fostering depth v) (renew_plan fostering depth (bare v)) (renew_down_plan fostering depth) (renewed-blind fostering depth v) (down-blind fostering depth)

recon-older : (fostering b : Bool) (v : Split) → Alike (λ w. recon_older fostering w b) v
recon-older fostering true v = down-blind fostering (length v.change.formatting) v
recon-older fostering false v = refl

recon-below : (fostering : Bool) (v : Split) → Alike (recon_below fostering) v
recon-below fostering v = same-then bare (ask_quiet v.change.popped v.change.cuts) (recon_older fostering v) (recon_older fostering (bare v)) (λ b. recon-older fostering b v)

recon-on : (fostering : Bool) (walk : Walk) (v : Split) → Alike (λ w. recon_on fostering w walk) v
recon-on fostering (Found k) v = down-blind fostering k v
recon-on fostering Stopped v = recon-below fostering v
recon-on fostering PastAll v = recon-below fostering v

pub reconstruct-blind : (fostering : Bool) → IsBlind (reconstruct_plan fostering)
reconstruct-blind fostering v = recon-on fostering (stale_walk v.change.stack v.change.formatting) v

-- pending table characters
fostered-blind : (text : List ℕ) → IsBlind (fostered_text text)
fostered-blind text v = blind-then bare bare (put_plan true (child.Text text) v) (put_plan true (child.Text text) (bare v)) frameset_plan (put-blind true (child.Text text) v) (λ w. refl)

foster-blind : (text : List ℕ) → IsBlind (foster_text text)
foster-blind text v = blind-then bare bare (reconstruct_plan true v) (reconstruct_plan true (bare v)) (fostered_text text) (reconstruct-blind true v) (fostered-blind text)

flushed-by : (text : List ℕ) (white : Bool) (v : Split) → Alike (λ w. flush_by text w white) v
flushed-by text true v = put-blind false (child.Text text) v
flushed-by text false v = foster-blind text v

flushed-text : (text : List ℕ) (v : Split) → Alike (flush_text text) v
flushed-text [] v = refl
flushed-text (c ∷ cs) v = flushed-by (c ∷ cs) (list_all is_white (c ∷ cs)) v

flushed-on : (b : Bool) (v : Split) → Alike (λ w. flush_on w b) v
flushed-on true v = refl
flushed-on false v = flushed-text v.change.pending (with_change (with_pending [] v.change) v)

pub flush-blind : IsBlind flush_plan
flush-blind v = flushed-on v.older_text v

-- the adoption agency algorithm: what a turn leaves
abbrev bare_left : Turned → Turned
bare_left t = record { split = bare t.split; goes_on = t.goes_on }

abbrev TurnsAlike : (Split → Plan Turned) → Split → Type 0
TurnsAlike p v = told_as bare_left (p v) ≡ told_as bare_left (p (bare v))

untangled-blind : (fostering : Bool) (id : ℕ) (tag : Tag) (depth : ℕ) (block : Seat) → IsBlind (untangle_plan fostering id tag depth block)
untangled-blind fostering id tag depth block v = placed-blind fostering (below_depth depth v) (untangled id tag depth block v) (untangled id tag depth block (bare v)) (λ w. refl)

block-alike : (fostering : Bool) (id : ℕ) (tag : Tag) (depth : ℕ) (o : Option Seat) (v : Split) → TurnsAlike (λ w. block_turn fostering id tag depth w o) v
block-alike fostering id tag depth None v = refl
block-alike fostering id tag depth (Some block) v = blind-then bare bare_left (untangle_plan fostering id tag depth block v) (untangle_plan fostering id tag depth block (bare v)) (λ w. gives (record { split = w; goes_on = true })) (untangled-blind fostering id tag depth block v) (λ w. refl)

hidden-alike : (hidden : Bool) (fostering : Bool) (id : ℕ) (tag : Tag) (depth : ℕ) (o : Option Seat) (v : Split) → TurnsAlike (λ w. if hidden then stays w else block_turn fostering id tag depth w o) v
hidden-alike true fostering id tag depth o v = refl
hidden-alike false fostering id tag depth o v = block-alike fostering id tag depth o v

own-alike : (fostering : Bool) (id : ℕ) (tag : Tag) (walk : Walk) (v : Split) → TurnsAlike (λ w. own_turn fostering id tag w walk) v
own-alike fostering id tag (Found depth) v = hidden-alike (hides (take depth v.change.stack)) fostering id tag depth (furthest (take depth v.change.stack)) v
own-alike fostering id tag Stopped v = refl
own-alike fostering id tag PastAll v = refl

entry-alike : (fostering : Bool) (o : Option FormattingEntry) (v : Split) → TurnsAlike (λ w. entry_turn fostering w o) v
entry-alike fostering None v = refl
entry-alike fostering (Some Marker) v = refl
entry-alike fostering (Some (Element id tag)) v = own-alike fostering id tag (id_walk id v.change.stack) v

walk-alike : (name : List ℕ) (v : Split) → TurnsAlike (walk_turn name) v
walk-alike name v = blind-then bare bare_left (walk_plan name v) (walk_plan name (bare v)) (λ w. gives (record { split = w; goes_on = false })) (through-blind (kinds.Html name) (kinds.Set sets.Special) v) (λ w. refl)

scope-alike : (hidden : Bool) (v : Split) → TurnsAlike (λ w. if hidden then stays w else crosses X1) v
scope-alike true v = refl
scope-alike false v = refl

kind-alike : (name : List ℕ) (kind : EntryKind) (v : Split) → TurnsAlike (λ w. kind_turn name w kind) v
kind-alike name Absent v = walk-alike name v
kind-alike name Closed v = refl
kind-alike name Hidden v = refl
kind-alike name InScope v = scope-alike (hides v.change.stack) v

older-alike : (name : List ℕ) (v : Split) → TurnsAlike (older_turn name) v
older-alike name v = same-then bare_left (ask_listed v.change.popped v.change.cuts name) (λ s. kind_turn name v s.kind) (λ s. kind_turn name (bare v) s.kind) (λ s. kind-alike name s.kind v)

turn-alike : (fostering : Bool) (name : List ℕ) (walk : Walk) (v : Split) → TurnsAlike (λ w. turn_on fostering name w walk) v
turn-alike fostering name (Found k) v = entry-alike fostering (slice_get v.change.formatting k) v
turn-alike fostering name Stopped v = walk-alike name v
turn-alike fostering name PastAll v = older-alike name v

next-alike : (next : Split → Plan Split) (goes : Bool) (v : Split) → IsBlind next → Alike (λ w. turns_on next w goes) v
next-alike next true v h = h v
next-alike next false v h = refl

turns-blind : (n : ℕ) (fostering : Bool) (name : List ℕ) → IsBlind (turns_plan n fostering name)
unfolding turns_plan
turns-blind zero fostering name v = refl
turns-blind (suc n) fostering name v =
    blind-then bare_left bare (turn_plan fostering name v) (turn_plan fostering name (bare v)) (λ t. turns_on (turns_plan n fostering name) t.split t.goes_on)
    (turn-alike fostering name (entry_walk name v.change.formatting) v) (λ t. next-alike (turns_plan n fostering name) t.goes_on t.split (turns-blind n fostering name))

adopted-by : (fostering : Bool) (name : List ℕ) (b : Bool) (v : Split) → Alike (λ w. adopt_by fostering name w b) v
adopted-by fostering name true v = pop-blind v
adopted-by fostering name false v = turns-blind 8 fostering name v

plain-older : (name : List ℕ) (b : Bool) (v : Split) → plain_older name v b ≡ plain_older name (bare v) b
plain-older name true v = refl
plain-older name false v = refl

plain-on : (name : List ℕ) (stack : List OpenElement) (v : Split) → plain_on name v stack ≡ plain_on name (bare v) stack
plain-on name [] v = ap (followed_by (current_is_plan (kinds.Html name) v)) (λ i. λ b. plain-older name b v i)
plain-on name (e ∷ es) v = refl

pub adopt-blind : (fostering : Bool) (name : List ℕ) → IsBlind (adopt_plan fostering name)
adopt-blind fostering name v =
    same-then bare (is_plain_plan name v) (adopt_by fostering name v) (adopt_by fostering name (bare v)) (λ b. adopted-by fostering name b v)
    ∙ ap (λ p. told_as bare (followed_by p (adopt_by fostering name (bare v)))) (plain-on name v.change.stack v)

-- an entry put into the list
room-last : (b : Bool) (id : ℕ) (v : Split) → Alike (λ w. if b then crosses X1 else remove_entry_plan id w) v
room-last true id v = refl
room-last false id v = remove_entry-blind id v

room-first : (a b : Bool) (id : ℕ) (v : Split) → Alike (λ w. if a then gives w else if b then crosses X1 else remove_entry_plan id w) v
room-first true b id v = refl
room-first false b id v = room-last b id v

room-with : (own : Tally) (older : ℕ) (v : Split) → Alike (λ w. room_with own w older) v
room-with own older v = room-first (nat_lt older (3 - own.count)) (nat_lt 0 older) own.earliest v

room-by : (b : Bool) (tag : Tag) (own : Tally) (v : Split) → Alike (room_by b tag own) v
room-by true tag own v = room-with own 0 v
room-by false tag own v = same-then bare (older_equals v.page v.change.cuts tag) (room_with own v) (room_with own (bare v)) (λ n. room-with own n v)

room-blind : (tag : Tag) → IsBlind (room_plan tag)
room-blind tag v = room-by (tally tag v.change.formatting 0 0).ended tag (tally tag v.change.formatting 0 0) v

pub append-blind : (tag : Tag) → IsBlind (append_to_list_plan tag)
append-blind tag v = blind-then bare bare (room_plan tag v) (room_plan tag (bare v)) (append_plan tag) (room-blind tag v) (λ w. refl)

-- the start of a link
gone-blind : (id : ℕ) → IsBlind (gone_plan id)
gone-blind id v = blind-then bare bare (remove_entry_plan id v) (remove_entry_plan id (bare v)) (take_off_plan id) (remove_entry-blind id v) (take_off-blind id)

close-own : (fostering : Bool) (o : Option FormattingEntry) (v : Split) → Alike (λ w. close_own_plan fostering w o) v
close-own fostering None v = refl
close-own fostering (Some Marker) v = refl
close-own fostering (Some (Element id tag)) v = blind-then bare bare (adopt_plan fostering a_link v) (adopt_plan fostering a_link (bare v)) (gone_plan id) (adopt-blind fostering a_link v) (gone-blind id)

close-by : (b : Bool) (v : Split) → Alike (λ w. close_older_by w b) v
close-by true v = refl
close-by false v = refl

close-older : (v : Split) → Alike close_older_plan v
close-older v = same-then bare (ask_listed v.change.popped v.change.cuts a_link) (λ s. close_older_by v (is_there s.kind)) (λ s. close_older_by (bare v) (is_there s.kind)) (λ s. close-by (is_there s.kind) v)

close-on : (fostering : Bool) (walk : Walk) (v : Split) → Alike (λ w. close_on fostering w walk) v
close-on fostering (Found k) v = close-own fostering (slice_get v.change.formatting k) v
close-on fostering Stopped v = refl
close-on fostering PastAll v = close-older v

pub close_link-blind : (fostering : Bool) → IsBlind (close_link_plan fostering)
close_link-blind fostering v = close-on fostering (entry_walk a_link v.change.formatting) v

-- foreign content
pop_where-blind : (b : Bool) → IsBlind (pop_where_plan b)
pop_where-blind true v = pop-blind v
pop_where-blind false v = refl

inserted-in : (space : Namespace) (fostering self_closing : Bool) (tag : Tag) → IsBlind (insert_in_plan space fostering self_closing tag)
inserted-in space fostering self_closing tag v = blind-then bare bare (insert_plan fostering (tag_in space tag) v) (insert_plan fostering (tag_in space tag) (bare v)) (pop_where_plan self_closing) (insert-blind fostering (tag_in space tag) v) (pop_where-blind self_closing)

pub insert_foreign-blind : (fostering self_closing : Bool) (tag : Tag) → IsBlind (insert_foreign_plan fostering self_closing tag)
insert_foreign-blind fostering self_closing tag = inserted-in _ fostering self_closing tag

namespace-on : (stack : List OpenElement) (v : Split) → namespace_on v stack ≡ namespace_on (bare v) stack
namespace-on [] v = refl
namespace-on (e ∷ es) v = refl

pub insert_as_current-blind : (fostering self_closing : Bool) (tag : Tag) → IsBlind (insert_as_current_plan fostering self_closing tag)
insert_as_current-blind fostering self_closing tag v =
    same-then bare (namespace_plan v) (in_namespace fostering self_closing tag v) (in_namespace fostering self_closing tag (bare v)) (λ space. inserted-in space fostering self_closing tag v)
    ∙ ap (λ p. told_as bare (followed_by p (in_namespace fostering self_closing tag (bare v)))) (namespace-on v.change.stack v)
