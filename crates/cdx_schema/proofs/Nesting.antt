-- How deep the JSON spelling of a bill nests.
use Rattle.std.specs.Prelude.{◌≡◌, refl, ℕ, suc, ◌+◌, ◌-◌, ◌*◌, ◌≤◌, List, [], ◌∷◌, Bool, true, false, not, ◌&&◌, nat_lt, nat_le, if◌then◌else◌, ◌⊎◌}
use Rattle.std.proofs.Common.{true≢false, inl, inr, Ordering, Less, Equal, Greater}
use Rattle.std.specs.Ordering.{match_ordering}
use mathlib.Core.Path.{sym, subst}
use native.Mathlib.Omega.{arith}
use Rattle.serde_json.specs.Data.{Data, object, Members, no_members, put, depth, items_depth, members_depth}
use Rattle.serde_json.specs.Data as json
use Rattle.cdx_models.specs.declared.bom.SpecVersion.{SpecVersion}
use Rattle.cdx_models.specs.Trees.{Name, hash, entity, commit, patch, diff, issue, reference, dependency, composition, license, tool, component, swid, pedigree, evidence, service, tools_object, metadata, signers, chain, bill, Tree, absent, items, fields, Trees, none, more}
use Rattle.cdx_schema.specs.Kinds.{Lists, hashes, urls, commits, patches, resolved, links, external_references, dependencies, depended, compositions, assemblies, composed, vulnerabilities, licenses, components, services, endpoints, tool_list, Kind, a_list, a_record, a_license_choice, a_license_identifier, a_tools, a_data, an_entry, a_signature, a_bill, Member, member, merged, Row}
use Rattle.cdx_schema.specs.Table.{rows, list}
use Rattle.cdx_schema.specs.Held.{held_kind}
use Rattle.cdx_schema.specs.Depth.{Depth, top, inside, name_too_deep}
use Rattle.cdx_schema.specs.Keeping.{is_shallow, are_shallow}
use Rattle.cdx_schema.specs.Membership.{HasShape, HaveShape, FieldsHaveShape, IsRecordOf, IsListKind, may_lack}
use Rattle.cdx_schema.specs.JsonSpelling.{jspell, items_spelled, members_spelled, own_members, is_spelled, set_member, heading, in_choice}
use Rattle.cdx_schema.proofs.JsonBack.{and_true, not_true}
use Rattle.cdx_schema.proofs.Basics.{true_le}

-- ---- heights: a number, or so much above a component or a service at the same depth

data Height : Type 0 where
  at_most above_component above_service : ℕ → Height

-- how deep a component and a service nest that stand at a depth
abbrev component_height : Depth → ℕ
component_height d = 4 + 3 * (32 - d.components)

abbrev service_height : Depth → ℕ
service_height d = 4 + 2 * (32 - d.services)

abbrev value : Height → Depth → ℕ
value (at_most n) d = n
value (above_component n) d = component_height d + n
value (above_service n) d = service_height d + n

abbrev up : Height → Height
up (at_most n) = at_most (suc n)
up (above_component n) = above_component (suc n)
up (above_service n) = above_service (suc n)

abbrev lower : Height → Height → Bool
lower (at_most m) (at_most n) = nat_le m n
lower (at_most m) (above_component n) = nat_le m (4 + n)
lower (at_most m) (above_service n) = nat_le m (4 + n)
lower (above_component m) (above_component n) = nat_le m n
lower (above_service m) (above_service n) = nat_le m n
lower (above_component m) (at_most n) = nat_le (100 + m) n
lower (above_service m) (at_most n) = nat_le (68 + m) n
lower (above_component m) (above_service n) = false
lower (above_service m) (above_component n) = false

lower_than : (x y : Height) (d : Depth) → lower x y ≡ true → value x d ≤ value y d
lower_than (at_most m) (at_most n) d h = omega (arith, true_le m n h)
lower_than (at_most m) (above_component n) d h = omega (arith, true_le m (4 + n) h)
lower_than (at_most m) (above_service n) d h = omega (arith, true_le m (4 + n) h)
lower_than (above_component m) (above_component n) d h = omega (arith, true_le m n h)
lower_than (above_service m) (above_service n) d h = omega (arith, true_le m n h)
lower_than (above_component m) (at_most n) d h = omega (arith, true_le (100 + m) n h)
lower_than (above_service m) (at_most n) d h = omega (arith, true_le (68 + m) n h)
lower_than (above_component m) (above_service n) d h = absurd (true≢false (sym h))
lower_than (above_service m) (above_component n) d h = absurd (true≢false (sym h))

value_up : (x : Height) (d : Depth) → value (up x) d ≡ suc (value x d)
value_up (at_most n) d = refl
value_up (above_component n) d = omega arith
value_up (above_service n) d = omega arith

-- ---- the heights of the schema

-- a record's members, at the depth inside the record
abbrev inner : Name → Height
inner component = above_component 2
inner pedigree = above_component 1
inner service = above_service 1
inner entity = at_most 2
inner commit = at_most 1
inner patch = at_most 3
inner diff = at_most 1
inner issue = at_most 1
inner reference = at_most 2
inner dependency = at_most 1
inner composition = at_most 3
inner license = at_most 2
inner tool = at_most 4
inner swid = at_most 1
inner evidence = at_most 5
inner signers = at_most 2
inner chain = at_most 2
inner tools_object = at_most 101
inner metadata = at_most 102
inner bill = at_most 103
inner _ = at_most 0

-- the record itself, at the depth where it stands
abbrev name_height : Name → Height
name_height component = above_component 0
name_height service = above_service 0
name_height n = up (inner n)

abbrev list_height : Lists → Height
list_height components = above_component 1
list_height services = above_service 1
list_height urls = at_most 1
list_height commits = at_most 3
list_height patches = at_most 5
list_height resolved = at_most 3
list_height links = at_most 1
list_height external_references = at_most 4
list_height dependencies = at_most 3
list_height depended = at_most 1
list_height compositions = at_most 5
list_height assemblies = at_most 1
list_height composed = at_most 1
list_height vulnerabilities = at_most 1
list_height licenses = at_most 5
list_height endpoints = at_most 1
list_height tool_list = at_most 6
list_height _ = at_most 2

abbrev kind_height : Kind → Height
kind_height (a_list l) = list_height l
kind_height (a_record n) = name_height n
kind_height a_license_choice = at_most 4
kind_height a_license_identifier = at_most 1
kind_height a_tools = at_most 102
kind_height a_data = at_most 2
kind_height an_entry = at_most 1
kind_height a_signature = at_most 3
kind_height a_bill = at_most 104
kind_height _ = at_most 0

abbrev is_within : Member → Kind → Height → Bool
is_within (member q) k h = lower (kind_height k) h
is_within merged k h = lower (kind_height k) (up h)

abbrev are_within : List Row → Height → Bool
are_within [] h = true
are_within (r ∷ rs) h = is_within r.json r.kind h && are_within rs h

within : (n : Name) → are_within (rows n) (inner n) ≡ true
unfolding rows
within hash = refl
within _ = refl

list_within : (l : Lists) → lower (up (kind_height (list l).kind)) (list_height l) ≡ true
unfolding list
list_within hashes = refl
list_within _ = refl

held_within : (k : Kind) → IsListKind k → lower (up (kind_height (held_kind k))) (kind_height k) ≡ true
unfolding list
held_within (a_list l) h = list_within l
held_within a_tools h = refl
held_within a_data h = refl
held_within _ h = absurd (true≢false h)

-- A record is one level above its members.
name_value : (n : Name) (d : Depth) → name_too_deep n d ≡ false → suc (value (inner n) (inside n d)) ≤ value (name_height n) d
name_value component d h = omega (arith, below d.components h)
  where
    below : (m : ℕ) → not (nat_lt m 32) ≡ false → suc m ≤ 32
    below m e = grind arith
name_value service d h = omega (arith, below d.services h)
  where
    below : (m : ℕ) → not (nat_lt m 32) ≡ false → suc m ≤ 32
    below m e = grind arith
name_value _ d h = omega arith

abbrev wrapped : Kind → Name → Height
wrapped a_license_choice license = up (name_height license)
wrapped _ n = name_height n

record_within : (k : Kind) (n : Name) (ts : Trees) → IsRecordOf k n ts → lower (wrapped k n) (kind_height k) ≡ true
record_within (a_record m) n ts is = subst (λ (j : Name). lower (name_height j) (name_height m) ≡ true) (sym is) (itself m)
  where
    itself : (j : Name) → lower (name_height j) (name_height j) ≡ true
    itself hash = refl
    itself _ = refl
record_within a_license_choice n ts (inl is) = subst (λ (j : Name). lower (wrapped a_license_choice j) (at_most 4) ≡ true) (sym is) refl
record_within a_license_choice n ts (inr is) = subst (λ (j : Name). lower (wrapped a_license_choice j) (at_most 4) ≡ true) (sym is) refl
record_within a_license_identifier n ts (inl is) = subst (λ (j : Name). lower (name_height j) (at_most 1) ≡ true) (sym is) refl
record_within a_license_identifier n ts (inr is) = subst (λ (j : Name). lower (name_height j) (at_most 1) ≡ true) (sym is) refl
record_within a_tools n ts is = subst (λ (j : Name). lower (name_height j) (at_most 102) ≡ true) (sym is) refl
record_within an_entry n ts (inl is) = subst (λ (j : Name). lower (name_height j) (at_most 1) ≡ true) (sym is) refl
record_within an_entry n ts (inr is) = subst (λ (j : Name). lower (name_height j) (at_most 1) ≡ true) (sym is.0) refl
record_within a_signature n ts (inl is) = subst (λ (j : Name). lower (name_height j) (at_most 3) ≡ true) (sym is) refl
record_within a_signature n ts (inr (inl is)) = subst (λ (j : Name). lower (name_height j) (at_most 3) ≡ true) (sym is) refl
record_within a_signature n ts (inr (inr is)) = subst (λ (j : Name). lower (name_height j) (at_most 3) ≡ true) (sym is) refl
record_within a_bill n ts is = subst (λ (j : Name). lower (name_height j) (at_most 104) ≡ true) (sym is) refl
record_within _ n ts is = absurd (true≢false is)

-- ---- spellings

match_depth : (o : Ordering) (a b c : Members) (n : ℕ) → members_depth a ≤ n → members_depth b ≤ n → members_depth c ≤ n → members_depth (match_ordering o a b c) ≤ n
match_depth Less a b c n p q r = p
match_depth Equal a b c n p q r = q
match_depth Greater a b c n p q r = r

put_depth : (k : List ℕ) (x : Data) (ms : Members) (n : ℕ) → depth x ≤ n → members_depth ms ≤ n → members_depth (put k x ms) ≤ n
put_depth k x no_members n p q = omega arith
put_depth k x (json.member l e ms) n p q =
    match_depth _ (json.member k x (json.member l e ms)) (json.member l x ms) (json.member l e (put k x ms)) n (omega arith) (omega arith) (omega (arith, put_depth k x ms n p (omega arith)))

heading_depth : (n : Name) → members_depth (heading n) ≡ 0
heading_depth bill = refl
heading_depth _ = refl

choice_depth : (k : Kind) (n : Name) (ms : Members) (d : Depth) → suc (members_depth ms) ≤ value (name_height n) d → depth (in_choice k n (object ms)) ≤ value (wrapped k n) d
choice_depth a_license_choice license ms d h = omega arith
choice_depth _ _ ms d h = h

wrapped_more : (k : Kind) (n : Name) (d : Depth) → value (name_height n) d ≤ value (wrapped k n) d
wrapped_more a_license_choice license d = omega arith
wrapped_more _ n d = omega arith

record_value : (k : Kind) (n : Name) (ts : Trees) (d : Depth) → IsRecordOf k n ts → value (wrapped k n) d ≤ value (kind_height k) d
record_value k n ts d is = lower_than (wrapped k n) (kind_height k) d (record_within k n ts is)

held_value : (k : Kind) (d : Depth) → IsListKind k → suc (value (kind_height (held_kind k)) d) ≤ value (kind_height k) d
held_value k d h = subst (λ (m : ℕ). m ≤ value (kind_height k) d) (value_up (kind_height (held_kind k)) d) (lower_than (up (kind_height (held_kind k))) (kind_height k) d (held_within k h))

member_value : (q : List ℕ) (k : Kind) (h : Height) (d : Depth) → is_within (member q) k h ≡ true → value (kind_height k) d ≤ value h d
member_value q k h d e = lower_than (kind_height k) h d e

merged_value : (k : Kind) (h : Height) (d : Depth) → is_within merged k h ≡ true → value (kind_height k) d ≤ suc (value h d)
merged_value k h d e = subst (λ (m : ℕ). value (kind_height k) d ≤ m) (value_up h d) (lower_than (kind_height k) (up h) d e)

trans : (a b c : ℕ) → a ≤ b → b ≤ c → a ≤ c
trans a b c p q = omega arith

set_depth : (b : Bool) (m : Member) (k : Kind) (h : Height) (d : Depth) (n : ℕ) (x : Data) (own : Members → Members) (ms : Members) → is_within m k h ≡ true → value h d ≤ n → members_depth ms ≤ n
    → depth x ≤ value (kind_height k) d → (value (kind_height k) d ≤ suc n → members_depth (own ms) ≤ n)
    → members_depth (if b then set_member m x own ms else ms) ≤ n
set_depth false m k h d n x own ms e v p f g = p
set_depth true (member q) k h d n x own ms e v p f g = put_depth q x ms n (trans (depth x) (value (kind_height k) d) n f (trans (value (kind_height k) d) (value h d) n (member_value q k h d e) v)) p
set_depth true merged k h d n x own ms e v p f g = g (trans (value (kind_height k) d) (suc (value h d)) (suc n) (merged_value k h d e) (omega arith))

absent_deep : (t : Tree) (w : SpecVersion) (r : Row) (n : ℕ) → ((t ≡ absent) × (may_lack r.need ≡ true)) ⊎ HasShape t r.kind → (HasShape t r.kind → depth (jspell t w r.kind) ≤ n) → depth (jspell t w r.kind) ≤ n
unfolding jspell
absent_deep t w r n (inl h) f = subst (λ (x : Tree). depth (jspell x w r.kind) ≤ n) (sym h.0) (omega arith)
absent_deep t w r n (inr h) f = f h

absent_own : (t : Tree) (w : SpecVersion) (r : Row) (n : ℕ) (ms : Members) → ((t ≡ absent) × (may_lack r.need ≡ true)) ⊎ HasShape t r.kind → members_depth ms ≤ n → (HasShape t r.kind → members_depth (own_members t w ms) ≤ n) → members_depth (own_members t w ms) ≤ n
unfolding jspell
absent_own t w r n ms (inl h) p f = subst (λ (x : Tree). members_depth (own_members x w ms) ≤ n) (sym h.0) p
absent_own t w r n ms (inr h) p f = f h

mutual
  unfolding jspell is_shallow

  deep : (t : Tree) (w : SpecVersion) (k : Kind) (d : Depth) → HasShape t k → is_shallow t d ≡ true → depth (jspell t w k) ≤ value (kind_height k) d
  deep absent w k d is s = absurd (true≢false is)
  deep (items ts) w k d is s = trans (suc (items_depth (items_spelled ts w (held_kind k)))) (suc (value (kind_height (held_kind k)) d)) (value (kind_height k) d) (omega (arith, deep_items ts w (held_kind k) d is.1 s)) (held_value k d is.0)
  deep (fields n ts) w k d is s =
      let p : (not (name_too_deep n d) ≡ true) × (are_shallow ts (inside n d) ≡ true) = and_true (not (name_too_deep n d)) (are_shallow ts (inside n d)) s in
      let m : Members = members_spelled ts w (rows n) (heading n) in
      let i : members_depth m ≤ value (inner n) (inside n d) = deep_rows ts w (rows n) (inside n d) (inner n) (value (inner n) (inside n d)) (heading n) is.1 p.1 (within n) (omega arith) (subst (λ (x : ℕ). x ≤ value (inner n) (inside n d)) (sym (heading_depth n)) (omega arith)) in
      trans (depth (in_choice k n (object m))) (value (wrapped k n) d) (value (kind_height k) d)
      (choice_depth k n m d (trans (suc (members_depth m)) (suc (value (inner n) (inside n d))) (value (name_height n) d) (omega (arith, i)) (name_value n d (not_true (name_too_deep n d) p.0))))
      (record_value k n ts d is.0)
  deep _ w k d is s = omega arith

  deep_items : (ts : Trees) (w : SpecVersion) (k : Kind) (d : Depth) → HaveShape ts k → are_shallow ts d ≡ true → items_depth (items_spelled ts w k) ≤ value (kind_height k) d
  deep_items none w k d is s = omega arith
  deep_items (more t ts) w k d is s =
      let p : (is_shallow t d ≡ true) × (are_shallow ts d ≡ true) = and_true (is_shallow t d) (are_shallow ts d) s in
      omega (arith, deep t w k d is.0 p.0, deep_items ts w k d is.1 p.1)

  deep_rows : (ts : Trees) (w : SpecVersion) (rs : List Row) (d : Depth) (h : Height) (b : ℕ) (ms : Members) → FieldsHaveShape ts rs → are_shallow ts d ≡ true → are_within rs h ≡ true → value h d ≤ b → members_depth ms ≤ b
      → members_depth (members_spelled ts w rs ms) ≤ b
  deep_rows none w rs d h b ms is s e v p = p
  deep_rows (more t ts) w [] d h b ms is s e v p = p
  deep_rows (more t ts) w (r ∷ rs) d h b ms is s e v p =
      let q : (is_shallow t d ≡ true) × (are_shallow ts d ≡ true) = and_true (is_shallow t d) (are_shallow ts d) s in
      let f : (is_within r.json r.kind h ≡ true) × (are_within rs h ≡ true) = and_true (is_within r.json r.kind h) (are_within rs h) e in
      deep_rows ts w rs d h b (if is_spelled r t w then set_member r.json (jspell t w r.kind) (own_members t w) ms else ms) is.1 q.1 f.1 v
      (set_depth (is_spelled r t w) r.json r.kind h d b (jspell t w r.kind) (own_members t w) ms f.0 v p
      (absent_deep t w r (value (kind_height r.kind) d) is.0 (λ g. deep t w r.kind d g q.0))
      (λ g. absent_own t w r b ms is.0 p (λ o. deep_own t w r.kind d b ms o q.0 g p)))

  deep_own : (t : Tree) (w : SpecVersion) (k : Kind) (d : Depth) (b : ℕ) (ms : Members) → HasShape t k → is_shallow t d ≡ true → value (kind_height k) d ≤ suc b → members_depth ms ≤ b → members_depth (own_members t w ms) ≤ b
  deep_own (fields n ts) w k d b ms is s v p =
      let q : (not (name_too_deep n d) ≡ true) × (are_shallow ts (inside n d) ≡ true) = and_true (not (name_too_deep n d)) (are_shallow ts (inside n d)) s in
      deep_rows ts w (rows n) (inside n d) (inner n) b ms is.1 q.1 (within n)
      (omega (arith, name_value n d (not_true (name_too_deep n d) q.0), wrapped_more k n d, record_value k n ts d is.0, v)) p
  deep_own _ w k d b ms is s v p = p

-- The JSON spelling of a shallow bill nests at most 104 arrays and objects.
pub bill_nests : (b : Tree) (w : SpecVersion) → HasShape b a_bill → is_shallow b top ≡ true → depth (jspell b w a_bill) ≤ 104
bill_nests b w is s = deep b w a_bill top is s
