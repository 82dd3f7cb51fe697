-- Elements that are read child by child, event by event.
use Rattle.std.proofs.Common.{◌≡◌, ℕ, zero, suc, ◌+◌, ◌≤◌, List, true, false, Option, Some, None, Result, Ok, Err, refl, sym, ap, ◌∙◌, subst, arith}
use Rattle.std.specs.Prelude.{if◌then◌else◌}
use Rattle.cdx_events.specs.declared.name.OwnedName.{OwnedName}
use Rattle.cdx_events.specs.declared.name.OwnedAttribute.{OwnedAttribute}
use Rattle.cdx_events.specs.declared.name.Namespace.{Namespace}
use Rattle.cdx_events.specs.declared.event.XmlEvent.{XmlEvent}
use Rattle.cdx_events.specs.declared.event.XmlEvent.TheVariants.{StartDocument, EndDocument, StartElement, EndElement, Characters, CData}
use Rattle.cdx_events.specs.declared.event.EventKind.TheVariants as kinds
use Rattle.cdx_events.specs.Nodes.{Node, element, Nodes, no_nodes}
use Rattle.cdx_models.specs.declared.bom.SpecVersion.{SpecVersion}
use Rattle.cdx_models.specs.declared.errors.XmlReadError.{XmlReadError}
use Rattle.cdx_models.specs.Trees.{Trees, field}
use Rattle.cdx_schema.specs.Depth.{Depth}
use Rattle.cdx_schema.specs.Faults.{unexpected}
use Rattle.cdx_schema.specs.Kinds as sorts
use Rattle.cdx_schema.specs.Nodes.{◌⊕◌}
use Rattle.cdx_schema.specs.Results.{◌>>=◌}
use Rattle.cdx_schema.specs.XmlReading.{ElementReading, Plan, Child, find_child, is_second, stored, unknown, child_read_into, xread}
use Rattle.cdx_leaf.specs.declared.rule.Rule.{Rule}
use Rattle.cdx_leaf.specs.Fault.{Refused}
use Rattle.cdx_leaf.specs.Rules.{skips, as_rule}
use Rattle.cdx_machine.specs.declared.frame.Inside.{Inside}
use Rattle.cdx_machine.specs.declared.frame.Inside.TheVariants.{Nothing, Read, Skipped}
use Rattle.cdx_schema.specs.XmlSpelling.{lone}
use Rattle.cdx_machine.specs.Begun.{Begun, innermost, around, Next, still, whole, count, levels, start_name, ended_now, into, next_inside, next, TakesInside, TakesEvent}
use Rattle.cdx_machine.specs.Machines.{RefusesBefore, ChildHolding}
use Rattle.cdx_machine.specs.Frames.{IsSkipped, EntersAt, skipped}
use Rattle.cdx_machine.proofs.Names.{FindsAt, FindsSecond}
use Rattle.cdx_machine.proofs.Faults.{refuses_on, refuses_known}

-- ---- names

-- an element of this name
abbrev pub IsNamed : OwnedName → Node → Type 0
IsNamed n k = (a : List OwnedAttribute) × (s : Namespace) × (xs : Nodes) × (k ≡ element n a s xs)

pub ended_named : (o : Begun) → IsNamed (start_name o) (ended_now o)
ended_named (innermost n a s xs) = (a, s, xs, refl)
ended_named (around n a s xs o) = (a, s, xs ⊕ lone (ended_now o), refl)

abbrev pub StaysNamed : OwnedName → Next → Type 0
StaysNamed n (still o) = start_name o ≡ n
StaysNamed n (whole k) = IsNamed n k

keeps_inside : (n : OwnedName) (a : List OwnedAttribute) (s : Namespace) (xs : Nodes) (event : XmlEvent) → StaysNamed n (next_inside n a s xs event)
keeps_inside n a s xs StartDocument = refl
keeps_inside n a s xs EndDocument = refl
keeps_inside n a s xs (StartElement m b r) = refl
keeps_inside n a s xs (EndElement m) = (a, s, xs, refl)
keeps_inside n a s xs (Characters u) = refl
keeps_inside n a s xs (CData u) = refl

pub keeps_into : (n : OwnedName) (a : List OwnedAttribute) (s : Namespace) (xs : Nodes) (o : Next) → StaysNamed n (into n a s xs o)
keeps_into n a s xs (still o) = refl
keeps_into n a s xs (whole k) = refl

pub keeps_name : (o : Begun) (event : XmlEvent) → StaysNamed (start_name o) (next o event)
keeps_name (innermost n a s xs) event = keeps_inside n a s xs event
keeps_name (around n a s xs o) event = keeps_into n a s xs (next o event)

-- ---- levels

module _ (C : Type 0) where
  -- What is open agrees with what stands open in the element.
  abbrev pub Skips : Next → Inside C → Type 0
  Skips (still o) inside = inside ≡ Skipped (levels o)
  Skips (whole k) inside = inside ≡ Nothing

  skips_inside : (n : OwnedName) (a : List OwnedAttribute) (s : Namespace) (xs : Nodes) (event : XmlEvent) → TakesInside n event → Skips (next_inside n a s xs event) (skipped {C = C} zero event)
  skips_inside n a s xs StartDocument t = absurd t
  skips_inside n a s xs EndDocument t = absurd t
  skips_inside n a s xs (StartElement m c r) t = refl
  skips_inside n a s xs (EndElement m) t = refl
  skips_inside n a s xs (Characters u) t = refl
  skips_inside n a s xs (CData u) t = refl

  -- one element more around it
  abbrev within_one : Inside C → Inside C
  within_one Nothing = Skipped zero
  within_one (Read c) = Read c
  within_one (Skipped k) = Skipped (suc k)

  skipped_within : (k : ℕ) (event : XmlEvent) → within_one (skipped k event) ≡ skipped (suc k) event
  skipped_within k StartDocument = refl
  skipped_within k EndDocument = refl
  skipped_within k (StartElement n a s) = refl
  skipped_within zero (EndElement n) = refl
  skipped_within (suc k) (EndElement n) = refl
  skipped_within k (Characters t) = refl
  skipped_within k (CData t) = refl

  skips_into : (n : OwnedName) (a : List OwnedAttribute) (s : Namespace) (xs : Nodes) (o : Next) (inside : Inside C) → Skips o inside → Skips (into n a s xs o) (within_one inside)
  skips_into n a s xs (still o) inside h = ap within_one h
  skips_into n a s xs (whole k) inside h = ap within_one h

  pub skips_next : (o : Begun) (event : XmlEvent) → TakesEvent o event → Skips (next o event) (skipped {C = C} (levels o) event)
  skips_next (innermost n a s xs) event t = skips_inside n a s xs event t
  skips_next (around n a s xs o) event t = subst (λ (x : Inside C). Skips (into n a s xs (next o event)) x) (skipped_within (levels o) event) (skips_into n a s xs (next o event) (skipped (levels o) event) (skips_next o event t))

pub level_less : (o : Begun) → levels o ≤ count o
level_less (innermost n a s xs) = omega arith
level_less (around n a s xs o) = let e : levels o ≤ count o = level_less o in omega (arith, e)

-- ---- a child's start

-- what a child of the plan makes of an element
pub row_read : (found : Option Child) (row : Child) (rule : sorts.Rule) (read : ElementReading) (el : List ℕ) (v : SpecVersion) (d : Depth) (q : ℕ) (ts : Trees) → found ≡ Some row → is_second row.place (field row.field ts) ≡ false
    → child_read_into found rule read el v d q ts ≡ (read v row.kind q d >>= λ t. Ok (stored row.place row.field t ts))
row_read found row rule read el v d q ts f g =
    ap (λ o. child_read_into o rule read el v d q ts) f ∙ ap (λ b. if b then Err (unexpected q el kinds.StartElement) else (read v row.kind q d >>= λ t. Ok (stored row.place row.field t ts))) g

second_read : (found : Option Child) (row : Child) (rule : sorts.Rule) (read : ElementReading) (el : List ℕ) (v : SpecVersion) (d : Depth) (q : ℕ) (ts : Trees) → found ≡ Some row → is_second row.place (field row.field ts) ≡ true
    → child_read_into found rule read el v d q ts ≡ Err (unexpected q el kinds.StartElement)
second_read found row rule read el v d q ts f g =
    ap (λ o. child_read_into o rule read el v d q ts) f ∙ ap (λ b. if b then Err (unexpected q el kinds.StartElement) else (read v row.kind q d >>= λ t. Ok (stored row.place row.field t ts))) g

unknown_read : (found : Option Child) (rule : sorts.Rule) (read : ElementReading) (el : List ℕ) (v : SpecVersion) (d : Depth) (q : ℕ) (ts : Trees) → found ≡ None → child_read_into found rule read el v d q ts ≡ unknown rule el q ts
unknown_read found rule read el v d q ts f = ap (λ o. child_read_into o rule read el v d q ts) f

unknown_by : (r : Rule) (el : List ℕ) (q : ℕ) (ts : Trees) → skips r ≡ true → unknown (as_rule r) el q ts ≡ Ok ts
unknown_by Rattle.cdx_leaf.specs.declared.rule.Rule.TheVariants.Lax el q ts h = refl
unknown_by Rattle.cdx_leaf.specs.declared.rule.Rule.TheVariants.Strict el q ts h = absurd (let wrong : false ≡ true = h in cc)
unknown_by Rattle.cdx_leaf.specs.declared.rule.Rule.TheVariants.Passing el q ts h = refl

unknown_not : (r : Rule) (el : List ℕ) (q : ℕ) (ts : Trees) → skips r ≡ false → unknown (as_rule r) el q ts ≡ Err (unexpected q el kinds.StartElement)
unknown_not Rattle.cdx_leaf.specs.declared.rule.Rule.TheVariants.Lax el q ts h = absurd (let wrong : true ≡ false = h in cc)
unknown_not Rattle.cdx_leaf.specs.declared.rule.Rule.TheVariants.Strict el q ts h = refl
unknown_not Rattle.cdx_leaf.specs.declared.rule.Rule.TheVariants.Passing el q ts h = absurd (let wrong : true ≡ false = h in cc)

module _ {C : Type 0} (holds : ChildHolding C) (plan : Plan) (ts : Trees) (v : SpecVersion) (n : List ℕ) (q : ℕ) (d : Depth) (m : OwnedName) (b : List OwnedAttribute) (s : Namespace) where
  abbrev Start : Begun
  Start = innermost m b s no_nodes

  -- the child's own fault
  pub enters_fault : (e : XmlReadError) (i : ℕ) (h : FindsAt plan.children ts v m.local_name i) → RefusesBefore e (q + 1) (xread (element m b s no_nodes) v h.row.kind q d) → EntersAt holds plan ts v n q d (innermost m b s no_nodes) (Err e)
  enters_fault e i h refuses =
      refuses_on e (q + 1) (suc q) (xread (element m b s no_nodes) v h.row.kind q d) _
      (λ f is. row_read (find_child v m.local_name plan.children) h.row plan.rule (xread (element m b s no_nodes)) n v d q ts h.found h.first_one ∙ ap (λ r. r >>= λ t. Ok (stored h.row.place h.row.field t ts)) is)
      (one_less q) refuses
    where
      one_less : (k : ℕ) → k + 1 ≡ suc k
      one_less k = omega arith

  refused_here : (found : kinds.the_data) (r : Result (Inside C) XmlReadError) → child_read_into (find_child v m.local_name plan.children) plan.rule (xread (element m b s no_nodes)) n v d q ts ≡ Err (unexpected q n kinds.StartElement)
      → found ≡ kinds.StartElement → Refused r (unexpected q n found) → EntersAt holds plan ts v n q d (innermost m b s no_nodes) r
  refused_here found (Ok x) is k h = absurd h
  refused_here found (Err e) is k h = refuses_known (Inside C) e (unexpected q n found) (suc q) _ h (is ∙ ap (λ x. Err (unexpected q n x)) (sym k)) refl

  pub enters_second : (found : kinds.the_data) (r : Result (Inside C) XmlReadError) → FindsSecond plan.children ts v m.local_name → found ≡ kinds.StartElement → Refused r (unexpected q n found) → EntersAt holds plan ts v n q d (innermost m b s no_nodes) r
  enters_second found r h k x = refused_here found r (second_read (find_child v m.local_name plan.children) h.row plan.rule (xread (element m b s no_nodes)) n v d q ts h.found h.second_one) k x

  pub enters_unknown : (found : kinds.the_data) (r : Result (Inside C) XmlReadError) (rule : Rule) → find_child v m.local_name plan.children ≡ None → plan.rule ≡ as_rule rule → skips rule ≡ false → found ≡ kinds.StartElement → Refused r (unexpected q n found)
      → EntersAt holds plan ts v n q d (innermost m b s no_nodes) r
  enters_unknown found r rule none is not k x =
      refused_here found r (unknown_read (find_child v m.local_name plan.children) plan.rule (xread (element m b s no_nodes)) n v d q ts none ∙ (ap (λ z. unknown z n q ts) is ∙ unknown_not rule n q ts not)) k x

  pub enters_skipped : (rule : Rule) → find_child v m.local_name plan.children ≡ None → plan.rule ≡ as_rule rule → skips rule ≡ true → IsSkipped plan 0 v (innermost m b s no_nodes)
  enters_skipped rule none is does = record { not_found = none; passed = λ el q ts. ap (λ z. unknown z el q ts) is ∙ unknown_by rule el q ts does; depth_is = refl }
