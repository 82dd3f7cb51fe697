-- What a road takes of a bill, entry by entry, and the bill less that.
use Rattle.std.specs.Prelude.{ℕ, zero, suc, List, [], ◌∷◌, ◌++◌, Bool, false, not, ◌&&◌, ◌||◌, if◌then◌else◌, Option, Some, None, option_map}
use Rattle.std.specs.List.{filter_map}
use Rattle.cdx_models.specs.declared.errors.Step.{Step}
use Rattle.cdx_models.specs.declared.bom.SpecVersion.{SpecVersion}
use Rattle.cdx_models.specs.declared.bom.SpecVersion.TheVariants.{V1_3, V1_4, V1_5}
use Rattle.cdx_models.specs.Versions.{knows}
use Rattle.cdx_models.specs.Trees.{Name, service_data, tools_object, Tree, absent, text, number, boolean, items, fields, Trees, none, more, is_absent, all_absent}
use Rattle.cdx_models.specs.Entries.{classification_of}
use Rattle.cdx_schema.specs.Kinds.{Kind, a_tools, an_entry, a_bill, Row}
use Rattle.cdx_schema.specs.Held.{held_kind}
use Rattle.cdx_schema.specs.Table.{rows}
use Rattle.cdx_schema.specs.Faults.{to_item}
use Rattle.cdx_schema.specs.JsonReading.{or_else}
use Rattle.cdx_schema.specs.Keeping.{kept_text}
use Rattle.cdx_schema.specs.Trips.{bare, field_after, is_hollow, is_passed_over, Hop, lowest_of}
use Rattle.cdx_schema.specs.Suppliers.{is_supplier}
use Rattle.cdx_schema.specs.Laws.{xml_count}
use Rattle.cdx_ways.specs.Ways.{At, behind_step, behind_row, behind_choice, after_step, after_row, after_choice}
use Rattle.cdx_losses.specs.declared.loss.Reason.{Reason}
use Rattle.cdx_losses.specs.declared.loss.Reason.TheVariants.{Version, Tools, Flow, Xml}

-- ---- the reasons, of which the first that holds counts

-- Before 1.5 a tools object that has a part becomes the empty list, and a flow its classification.
abbrev pub reason_before_1_5 : Kind → Name → Trees → Option Reason
reason_before_1_5 a_tools tools_object ts = if all_absent ts then None else Some Tools
reason_before_1_5 an_entry service_data ts = Some Flow
reason_before_1_5 _ n ts = None

abbrev pub reason_in : SpecVersion → Kind → Name → Trees → Option Reason
reason_in V1_3 k n ts = reason_before_1_5 k n ts
reason_in V1_4 k n ts = reason_before_1_5 k n ts
reason_in V1_5 k n ts = None

abbrev pub changed_by : SpecVersion → Kind → Tree → Option Reason
changed_by w k (fields n ts) = reason_in w k n ts
changed_by w k _ = None

-- Whether trips through XML, counted to two, take a field that is there. The first makes it absent, or the second does:
-- that takes a component's supplier which the first leaves without name, url and contact.
abbrev pub is_tripped : ℕ → Row → Tree → Bool
is_tripped zero r t = false
is_tripped (suc zero) r t = is_absent (field_after r t (bare t))
is_tripped (suc (suc n)) r t = is_absent (field_after r t (bare t)) || (is_supplier r.xml r.kind && is_hollow (bare t))

-- Whether they take an item.
abbrev pub is_skipped : ℕ → Tree → Bool
is_skipped zero t = false
is_skipped (suc n) t = is_passed_over t

abbrev pub if_so : Bool → Reason → Option Reason
if_so b why = if b then Some why else None

-- Why a road with the lowest version u and n trips takes a field, which has to be there.
abbrev pub field_reason : SpecVersion → ℕ → Row → Tree → Option Reason
field_reason w n r absent = None
field_reason w n r t = or_else (if_so (not (knows r.since w)) Version) (or_else (changed_by w r.kind t) (if_so (is_tripped n r t) Xml))

-- Why it takes an item of a list.
abbrev pub item_reason : SpecVersion → ℕ → Kind → Tree → Option Reason
item_reason w n k t = or_else (changed_by w k t) (if_so (is_skipped n t) Xml)

-- ---- what is taken

-- What is taken whole is one entry, below which nothing is listed.
abbrev pub entry_or : Option Reason → List (At Reason) → List (At Reason)
entry_or (Some why) below = ([], why) ∷ []
entry_or None below = below

-- What is taken of what stands inside a tree of a kind, in the order of rows and items.
unfoldable mutual
  pub lost : SpecVersion → ℕ → Tree → Kind → List (At Reason)
  lost w n absent k = []
  lost w n (text s) k = []
  lost w n (number m) k = []
  lost w n (boolean b) k = []
  lost w n (items ts) k = items_lost w n ts (held_kind k) 0
  lost w n (fields m ts) k = behind_choice k m (rows_lost w n ts (rows m))

  pub items_lost : SpecVersion → ℕ → Trees → Kind → ℕ → List (At Reason)
  items_lost w n none k i = []
  items_lost w n (more t ts) k i = behind_step (to_item i) (entry_or (item_reason w n k t) (lost w n t k)) ++ items_lost w n ts k (suc i)

  pub rows_lost : SpecVersion → ℕ → Trees → List Row → List (At Reason)
  rows_lost w n none rs = []
  rows_lost w n (more t ts) [] = []
  rows_lost w n (more t ts) (r ∷ rs) = behind_row r.json (entry_or (field_reason w n r t) (lost w n t r.kind)) ++ rows_lost w n ts rs

-- What a road takes of a bill. The version that counts is the lowest of its hops.
abbrev pub taken : Tree → List Hop → List (At Reason)
taken b [] = []
taken b (h ∷ hs) = lost (lowest_of h.version hs) (xml_count 2 (h ∷ hs)) b a_bill

-- ---- the bill less that

-- the entries whose paths go on from a value by a step, seen from the part behind it
abbrev pub entries_behind : (List Step → Option (List Step)) → List (At Reason) → List (At Reason)
entries_behind go xs = filter_map (λ x. option_map (λ p. (p, x.1)) (go x.0)) xs

-- the reason of the entry of a value itself
abbrev pub reason_here : List (At Reason) → Option Reason
reason_here [] = None
reason_here (([], why) ∷ xs) = Some why
reason_here ((s ∷ p, why) ∷ xs) = reason_here xs

-- A field for a reason, or the field as it is struck itself.
abbrev pub field_struck : Option Reason → Tree → Tree → Tree
field_struck None t u = u
field_struck (Some Version) t u = absent
field_struck (Some Tools) t u = items none
field_struck (Some Flow) t u = classification_of t
field_struck (Some Xml) t u = absent

-- An item, which may be gone, before the others.
abbrev pub item_struck : Option Reason → Tree → Tree → Trees → Trees
item_struck None t u us = more u us
item_struck (Some Version) t u us = us
item_struck (Some Tools) t u us = more (items none) us
item_struck (Some Flow) t u us = more (classification_of t) us
item_struck (Some Xml) t u us = us

-- A tree of a kind less the entries of a list, under the label l.
unfoldable mutual
  pub struck_in : SpecVersion → List (At Reason) → Tree → Kind → Tree
  struck_in l xs absent k = absent
  struck_in l xs (text s) k = kept_text l k s
  struck_in l xs (number n) k = number n
  struck_in l xs (boolean b) k = boolean b
  struck_in l xs (items ts) k = items (items_struck l xs ts (held_kind k) 0)
  struck_in l xs (fields n ts) k = fields n (rows_struck l (entries_behind (after_choice k n) xs) ts (rows n))

  pub items_struck : SpecVersion → List (At Reason) → Trees → Kind → ℕ → Trees
  items_struck l xs none k i = none
  items_struck l xs (more t ts) k i =
      let mine = entries_behind (after_step (to_item i)) xs in
      item_struck (reason_here mine) t (struck_in l mine t k) (items_struck l xs ts k (suc i))

  pub rows_struck : SpecVersion → List (At Reason) → Trees → List Row → Trees
  rows_struck l xs none rs = none
  rows_struck l xs (more t ts) [] = none
  rows_struck l xs (more t ts) (r ∷ rs) =
      let mine = entries_behind (after_row r.json) xs in
      more (field_struck (reason_here mine) t (struck_in l mine t r.kind)) (rows_struck l xs ts rs)

-- A bill with each flow of the list replaced by its classification, each tools object by the empty tool list, all else
-- that the list names removed, and the label.
abbrev pub struck : Tree → List (At Reason) → SpecVersion → Tree
struck b xs l = struck_in l xs b a_bill
