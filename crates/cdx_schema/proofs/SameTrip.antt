-- What is read back after a trip through XML is the same as what the trip leaves.
use Rattle.std.specs.Prelude.{◌≡◌, refl, List, [], ◌∷◌, Bool, true, false, ◌&&◌, if◌then◌else◌}
use Rattle.std.proofs.Common.{true≢false}
use mathlib.Core.Path.{ap, sym, ◌∙◌}
use Rattle.cdx_models.specs.declared.bom.SpecVersion.{SpecVersion}
use Rattle.cdx_models.specs.declared.bom.SpecVersion.TheVariants.{V1_3, V1_4, V1_5}
use Rattle.cdx_models.specs.Trees.{Name, hash, Tree, absent, text, number, boolean, items, fields, Trees, none, more}
use Rattle.cdx_schema.specs.Kinds.{Kind, a_list, a_tools, Need, optional, required, required_first, else_empty, Spelled, filled_child, children, Row}
use Rattle.cdx_schema.specs.Table.{rows}
use Rattle.cdx_schema.specs.Held.{held_kind}
use Rattle.cdx_schema.specs.Trips.{bare, items_bare, rows_bare, settled, items_settled, rows_settled, list_settled, is_hollow, is_passed_over, field_after, none_is_absent}
use Rattle.cdx_schema.proofs.JsonBack.{and_true}
use Rattle.cdx_schema.proofs.XmlLaw.{tripped, items_tripped, rows_tripped, list_after, is_list_kind}
use Rattle.cdx_schema.proofs.Basics.{more_is}

abbrev is_none : Trees → Bool
is_none none = true
is_none (more t ts) = false

both_none : (w : SpecVersion) (ts : Trees) (k : Kind) → is_none (items_tripped w ts k) ≡ is_none (items_bare ts)
unfolding tripped bare
both_none w none k = refl
both_none w (more t ts) k = by (is_passed_over t) (both_none w ts k)
  where
    by : (b : Bool) → is_none (items_tripped w ts k) ≡ is_none (items_bare ts)
        → is_none (if b then items_tripped w ts k else more (tripped w t k) (items_tripped w ts k)) ≡ is_none (if b then items_bare ts else more (bare t) (items_bare ts))
    by true h = h
    by false h = refl

settled_list : (k : Kind) (w : SpecVersion) (us : Trees) → settled (list_after k w us) k ≡ list_settled k (items_settled us (held_kind k))
unfolding settled rows
settled_list a_tools V1_3 us = refl
settled_list a_tools V1_4 us = refl
settled_list a_tools V1_5 none = refl
settled_list a_tools V1_5 (more u us) = refl
settled_list _ w us = refl

abbrev is_listed_row : Spelled → Kind → Bool
is_listed_row (children n) k = is_list_kind k
is_listed_row _ k = true

abbrev all_listed : List Row → Bool
all_listed [] = true
all_listed (r ∷ rs) = is_listed_row r.xml r.kind && all_listed rs

all_listed_rows : (n : Name) → all_listed (rows n) ≡ true
unfolding rows
all_listed_rows hash = refl
all_listed_rows _ = refl

none_alike : (us vs : Trees) (k : Kind) → is_none us ≡ is_none vs → settled (items us) k ≡ settled (items vs) k → settled (none_is_absent optional (items us)) k ≡ settled (none_is_absent optional (items vs)) k
unfolding settled
none_alike none none k h e = refl
none_alike none (more v vs) k h e = absurd (true≢false h)
none_alike (more u us) none k h e = absurd (true≢false (sym h))
none_alike (more u us) (more v vs) k h e = e

children_alike : (w : SpecVersion) (t : Tree) (k : Kind) (n : Need) → is_list_kind k ≡ true → settled (tripped w t k) k ≡ settled (bare t) k → settled (none_is_absent n (tripped w t k)) k ≡ settled (none_is_absent n (bare t)) k
unfolding tripped bare
children_alike w t k required l e = e
children_alike w t k required_first l e = e
children_alike w t k else_empty l e = e
children_alike w absent k optional l e = e
children_alike w (text s) k optional l e = e
children_alike w (number s) k optional l e = e
children_alike w (boolean s) k optional l e = e
children_alike w (fields m s) k optional l e = e
children_alike w (items ts) (a_list x) optional l e = none_alike (items_tripped w ts (held_kind (a_list x))) (items_bare ts) (a_list x) (both_none w ts (held_kind (a_list x))) e
children_alike w (items ts) _ optional l e = absurd (true≢false (sym l))

field_alike : (w : SpecVersion) (t : Tree) (r : Row) → is_listed_row r.xml r.kind ≡ true → settled (tripped w t r.kind) r.kind ≡ settled (bare t) r.kind
    → settled (field_after r t (tripped w t r.kind)) r.kind ≡ settled (field_after r t (bare t)) r.kind
field_alike w t r l e = by r.xml l
  where
    by : (x : Spelled) → is_listed_row x r.kind ≡ true → settled (field_after (record r { xml = x }) t (tripped w t r.kind)) r.kind ≡ settled (field_after (record r { xml = x }) t (bare t)) r.kind
    by (filled_child n) l' = at (is_hollow t)
      where
        at : (b : Bool) → settled (if b then absent else tripped w t r.kind) r.kind ≡ settled (if b then absent else bare t) r.kind
        at true = refl
        at false = e
    by (children n) l' = children_alike w t r.kind r.need l' e
    by _ l' = e

item_alike : (b : Bool) (t u : Tree) (ts us : Trees) (k : Kind) → settled t k ≡ settled u k → items_settled ts k ≡ items_settled us k → items_settled (if b then ts else more t ts) k ≡ items_settled (if b then us else more u us) k
unfolding settled
item_alike true t u ts us k p q = q
item_alike false t u ts us k p q = more_is p q

mutual
  unfolding tripped bare settled

  pub trip_same : (w : SpecVersion) (t : Tree) (k : Kind) → settled (tripped w t k) k ≡ settled (bare t) k
  trip_same w (items ts) k = settled_list k w (items_tripped w ts (held_kind k)) ∙ ap (list_settled k) (items_same w ts (held_kind k))
  trip_same w (fields n ts) k = ap (fields n) (rows_same w ts (rows n) (all_listed_rows n))
  trip_same w _ k = refl

  items_same : (w : SpecVersion) (ts : Trees) (k : Kind) → items_settled (items_tripped w ts k) k ≡ items_settled (items_bare ts) k
  items_same w none k = refl
  items_same w (more t ts) k = item_alike (is_passed_over t) (tripped w t k) (bare t) (items_tripped w ts k) (items_bare ts) k (trip_same w t k) (items_same w ts k)

  rows_same : (w : SpecVersion) (ts : Trees) (rs : List Row) → all_listed rs ≡ true → rows_settled (rows_tripped w ts rs) rs ≡ rows_settled (rows_bare ts rs) rs
  rows_same w none rs l = refl
  rows_same w (more t ts) [] l = refl
  rows_same w (more t ts) (r ∷ rs) l =
      let p : (is_listed_row r.xml r.kind ≡ true) × (all_listed rs ≡ true) = and_true (is_listed_row r.xml r.kind) (all_listed rs) l in
      more_is (field_alike w t r p.0 (trip_same w t r.kind)) (rows_same w ts rs p.1)
