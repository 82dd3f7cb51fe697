-- The JSON spelling of a tree of a kind has its members in order.
use Rattle.std.specs.Prelude.{◌≡◌, ℕ, ◌<◌, ◌^◌, List, [], ◌∷◌, Bool, true, false, if◌then◌else◌, ◌⊎◌}
use Rattle.std.proofs.Common.{true≢false, inl, inr}
use mathlib.Core.Path.{ap, sym, subst}
use native.Mathlib.Omega.{arith}
use Rattle.serde_json.specs.Data.{Data, Members}
use Rattle.serde_json.specs.Data as json
use Rattle.serde_json.specs.Read.{read}
use Rattle.cdx_models.specs.declared.bom.SpecVersion.{SpecVersion}
use Rattle.cdx_models.specs.declared.bom.SpecVersion.TheVariants.{V1_5}
use Rattle.cdx_models.specs.Trees.{Name, license, bill, Tree, absent, text, number, boolean, items, fields, Trees, none, more}
use Rattle.cdx_schema.specs.Kinds.{Kind, a_number, a_license_choice, a_bill, Member, member, merged, Row}
use Rattle.cdx_schema.specs.Table.{rows}
use Rattle.cdx_schema.specs.Held.{held_kind}
use Rattle.cdx_schema.specs.Membership.{AnyText, HasShape, HaveShape, FieldsHaveShape, IsNumberOf, may_lack}
use Rattle.cdx_schema.specs.JsonSpelling.{jspell, items_spelled, members_spelled, own_members, is_spelled, set_member, heading, in_choice}
use Rattle.cdx_schema.specs.Laws.{HasBillShape}
use Rattle.cdx_schema.proofs.Stated.{nests}
use Rattle.cdx_canon.specs.Canon.{plain}
use Rattle.cdx_ordered.specs.Ordered.{IsOrdered, AreItemsOrdered, AreOrdered}
use Rattle.cdx_ordered.proofs.ReadBack.{put_ordered, read_text}
use Rattle.cdx_canon.proofs.PlainBill.{TextsRead, plain_of, plain_shallow}

small : (k : Kind) (n : ℕ) → IsNumberOf k n → n < 2 ^ 64
small a_number n h = omega arith
small _ n h = absurd (true≢false h)

choice_ordered : (k : Kind) (n : Name) (ms : Members) → AreOrdered ms → IsOrdered (in_choice k n (json.object ms))
choice_ordered a_license_choice license ms h = (tt, (h, tt))
choice_ordered _ _ ms h = h

heading_ordered : (n : Name) → AreOrdered (heading n)
heading_ordered bill = (tt, (tt, tt))
heading_ordered _ = tt

set_ordered : (b : Bool) (m : Member) (x : Data) (own : Members → Members) (ms : Members) → IsOrdered x → AreOrdered ms → AreOrdered (own ms)
    → AreOrdered (if b then set_member m x own ms else ms)
set_ordered false m x own ms f h o = h
set_ordered true (member q) x own ms f h o = put_ordered q x ms f h
set_ordered true merged x own ms f h o = o

abbrev is_fields : Tree → Bool
is_fields (fields n ts) = true
is_fields _ = false

-- what a field is: absent, or of its row's kind
abbrev IsField : Tree → Row → Type 0
IsField t r = ((t ≡ absent) × (may_lack r.need ≡ true)) ⊎ HasShape t r.kind

field_ordered : (t : Tree) (w : SpecVersion) (r : Row) → IsField t r → (HasShape t r.kind → IsOrdered (jspell t w r.kind)) → IsOrdered (jspell t w r.kind)
unfolding jspell
field_ordered t w r (inl e) f = subst (λ (x : Tree). IsOrdered (jspell x w r.kind)) (sym e.0) tt
field_ordered t w r (inr h) f = f h

mutual
  unfolding jspell

  pub spelled_ordered : (t : Tree) (w : SpecVersion) (k : Kind) → HasShape t k → IsOrdered (jspell t w k)
  spelled_ordered absent w k h = tt
  spelled_ordered (text s) w k h = tt
  spelled_ordered (number n) w k h = small k n h
  spelled_ordered (boolean b) w k h = tt
  spelled_ordered (items ts) w k h = items_ordered ts w (held_kind k) h.1
  spelled_ordered (fields n ts) w k h = choice_ordered k n (members_spelled ts w (rows n) (heading n)) (rows_ordered ts w (rows n) (heading n) h.1 (heading_ordered n))

  items_ordered : (ts : Trees) (w : SpecVersion) (k : Kind) → HaveShape ts k → AreItemsOrdered (items_spelled ts w k)
  items_ordered none w k h = tt
  items_ordered (more t ts) w k h = (spelled_ordered t w k h.0, items_ordered ts w k h.1)

  rows_ordered : (ts : Trees) (w : SpecVersion) (rs : List Row) (ms : Members) → FieldsHaveShape ts rs → AreOrdered ms → AreOrdered (members_spelled ts w rs ms)
  rows_ordered none w rs ms h o = o
  rows_ordered (more t ts) w [] ms h o = o
  rows_ordered (more t ts) w (r ∷ rs) ms h o = rows_ordered ts w rs (if is_spelled r t w then set_member r.json (jspell t w r.kind) (own_members t w) ms else ms) h.1
      (set_ordered (is_spelled r t w) r.json (jspell t w r.kind) (own_members t w) ms (field_ordered t w r h.0 (λ g. spelled_ordered t w r.kind g)) o (own_ordered t w r ms h.0 o))

  own_ordered : (t : Tree) (w : SpecVersion) (r : Row) (ms : Members) → IsField t r → AreOrdered ms → AreOrdered (own_members t w ms)
  own_ordered (fields n ts) w r ms (inl e) o = absurd (true≢false (ap is_fields e.0))
  own_ordered (fields n ts) w r ms (inr h) o = rows_ordered ts w (rows n) ms h.1 o
  own_ordered absent w r ms h o = o
  own_ordered (text s) w r ms h o = o
  own_ordered (number n) w r ms h o = o
  own_ordered (boolean b) w r ms h o = o
  own_ordered (items ts) w r ms h o = o

-- The canonical text is read as the spelling of the plain bill.
pub texts_read : TextsRead
texts_read b is s =
    let shaped : HasBillShape (plain b) = plain_of AnyText b is in
    read_text (jspell (plain b) V1_5 a_bill) (spelled_ordered (plain b) V1_5 a_bill shaped) (omega (arith, nests (plain b) V1_5 shaped (plain_shallow b s)))
