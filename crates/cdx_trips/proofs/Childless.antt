-- Records that would be elements without children, and tests of two parts.
use Rattle.std.specs.Prelude.{◌≡◌, refl, Bool, true, false, not, ◌&&◌, Option, Some, None, is_some}
use Rattle.std.proofs.Common.{true≢false}
use mathlib.Core.Path.{ap, sym, ◌∙◌}
use Rattle.cdx_models.specs.Trees.{Tree, text, present, list_tree, is_absent}
use Rattle.cdx_models.specs.Records.{contact_tree, entity_tree, attached_text_tree}
use Rattle.cdx_models.specs.declared.organization.OrganizationalContact.{OrganizationalContact}
use Rattle.cdx_models.specs.declared.organization.OrganizationalEntity.{OrganizationalEntity}
use Rattle.cdx_license.specs.Records.{licenses_tree}
use Rattle.cdx_patch.specs.Records.{diff_tree, source_tree}
use Rattle.cdx_patch.specs.declared.code.Diff.{Diff}
use Rattle.cdx_patch.specs.declared.code.Source.{Source}
use Rattle.cdx_component_parts.specs.Records.{copyrights_tree, evidence_tree}
use Rattle.cdx_component_parts.specs.declared.component.ComponentEvidence.{ComponentEvidence}
use Rattle.cdx_schema.specs.Table.{rows}
use Rattle.cdx_schema.specs.Trips.{is_hollow}

-- what a test for nothing says
pub absent_row : {A : Type 0} (f : A → Tree) (o : Option A) (b : Bool) → ((x : A) → is_absent (f x) ≡ false) → is_some o ≡ not b → is_absent (present f o) ≡ b
absent_row f None true h e = refl
absent_row f None false h e = absurd (true≢false (sym e))
absent_row f (Some x) true h e = absurd (true≢false e)
absent_row f (Some x) false h e = h x

pub two_gone : (a b : Bool) → (a && (b && true)) ≡ (a && b)
two_gone true true = refl
two_gone true false = refl
two_gone false b = refl

pub three_gone : (a b c : Bool) → (a && (b && (c && true))) ≡ (a && (b && c))
three_gone true b c = two_gone b c
three_gone false b c = refl

pub diff_hollow : (x : Diff) (a b : Bool) → is_some x.text ≡ not a → is_some x.url ≡ not b → is_hollow (diff_tree x) ≡ (a && b)
unfolding is_hollow rows
diff_hollow x a b h g = rw (absent_row attached_text_tree x.text a (λ y. refl) h, absent_row text x.url b (λ y. refl) g) (two_gone a b)

pub source_hollow : (x : Source) (a b : Bool) → is_some x.name ≡ not a → is_some x.url ≡ not b → is_hollow (source_tree x) ≡ (a && b)
unfolding is_hollow rows
source_hollow x a b h g = rw (absent_row text x.name a (λ y. refl) h, absent_row text x.url b (λ y. refl) g) (two_gone a b)

pub evidence_hollow : (x : ComponentEvidence) (a b : Bool) → is_some x.licenses ≡ not a → is_some x.copyright ≡ not b → is_hollow (evidence_tree x) ≡ (a && b)
unfolding is_hollow rows
evidence_hollow x a b h g = rw (absent_row licenses_tree x.licenses a (λ y. refl) h, absent_row copyrights_tree x.copyright b (λ y. refl) g) (two_gone a b)

pub twice : (b : Bool) → b ≡ not (not b)
twice true = refl
twice false = refl

pub two_none : (s t a b : Bool) → s ≡ not a → t ≡ not b → (not s && not t) ≡ (a && b)
two_none s t a b h g = rw (h, g, sym (twice a), sym (twice b)) refl

-- the two ways of a test of two parts
pub then_second : (a b p : Bool) → a ≡ true → p ≡ (a && b) → b ≡ p
then_second a b p h g = sym (g ∙ ap (λ z. z && b) h)

pub else_first : (a b p : Bool) → a ≡ false → p ≡ (a && b) → a ≡ p
else_first a b p h g = sym (g ∙ (ap (λ z. z && b) h ∙ sym h))

pub contact_hollow : (x : OrganizationalContact) (a p : Bool) → is_some x.name ≡ not a → p ≡ (not (is_some x.email) && not (is_some x.phone)) → is_hollow (contact_tree x) ≡ (a && p)
unfolding is_hollow rows
contact_hollow x a p h q =
    rw (absent_row text x.name a (λ y. refl) h, absent_row text x.email (not (is_some x.email)) (λ y. refl) (twice (is_some x.email)), absent_row text x.phone (not (is_some x.phone)) (λ y. refl) (twice (is_some x.phone)), q) (three_gone a (not (is_some x.email)) (not (is_some x.phone)))

pub entity_hollow : (x : OrganizationalEntity) (a p : Bool) → is_some x.name ≡ not a → p ≡ (not (is_some x.url) && not (is_some x.contact)) → is_hollow (entity_tree x) ≡ (a && p)
unfolding is_hollow rows
entity_hollow x a p h q =
    rw (absent_row text x.name a (λ y. refl) h, absent_row (list_tree text) x.url (not (is_some x.url)) (λ y. refl) (twice (is_some x.url)), absent_row (list_tree contact_tree) x.contact (not (is_some x.contact)) (λ y. refl) (twice (is_some x.contact)), q) (three_gone a (not (is_some x.url)) (not (is_some x.contact)))
