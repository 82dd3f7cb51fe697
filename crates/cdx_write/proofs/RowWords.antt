-- One row, as a helper of the code writes it.
use Rattle.std.proofs.Common.{◌≡◌, ℕ, Bool, true, false, if◌then◌else◌, List, [], ◌∷◌, ◌++◌, Result, refl, sym, ap, subst, ◌∙◌}
use Rattle.std.proofs.lemmas.List.{append-nil}
use Rattle.cdx_events.specs.declared.name.OwnedName.{OwnedName}
use Rattle.cdx_events.specs.declared.name.OwnedAttribute.{OwnedAttribute}
use Rattle.cdx_events.specs.declared.event.XmlEvent.{XmlEvent}
use Rattle.cdx_events.specs.declared.event.XmlEvent.TheVariants.{Characters, CData}
use Rattle.cdx_events.specs.Name.{local}
use Rattle.cdx_events.specs.Nodes.{events_of}
use Rattle.cdx_models.specs.declared.bom.SpecVersion.{SpecVersion}
use Rattle.cdx_models.specs.declared.errors.XmlWriteError.{XmlWriteError}
use Rattle.cdx_models.specs.Versions.{knows}
use Rattle.cdx_models.specs.Trees.{Tree, absent, text, is_absent}
use Rattle.cdx_schema.specs.Kinds.{Kind, a_text}
use Rattle.cdx_schema.specs.Keeping.{kept, keep}
use Rattle.cdx_schema.specs.Trips.{is_hollow}
use Rattle.cdx_schema.specs.XmlTexts.{text_of}
use Rattle.cdx_schema.specs.XmlSpelling.{attribute_of, plain_element, tag_of, nodes_of, spelled}
use Rattle.cdx_write.specs.Lone.{IsLone}
use Rattle.cdx_write.specs.Spelling.{spelled_events, inner, Tag, spelled_as, spelling}
use Rattle.cdx_write.specs.Stays.{keeps_presence, presence_kept, KeepsHollow}
use Rattle.cdx_write.specs.WrittenRows.{attribute_written, child_written, filled_written, cdata_written, late_written}
use Rattle.cdx_write.specs.Writing.{Appends, simple_tag}

if_is : {A : Type 0} (b c : Bool) (x y : A) → b ≡ c → (if b then x else y) ≡ (if c then x else y)
if_is b c x y e = ap (λ d. if d then x else y) e

-- ---- appending what is equal, and nothing

pub appends_same : (old new a b : List XmlEvent) (r : Result (Unit {0}) XmlWriteError) → a ≡ b → Appends old new a r → Appends old new b r
appends_same old new a b r e h = subst (λ s. Appends old new s r) e h

pub nothing_added : (old a : List XmlEvent) → a ≡ [] → old ≡ old ++ a
nothing_added old a e = sym (append-nil old) ∙ ap (λ s. old ++ s) (sym e)

-- ---- rows known from a version on

pub late_known : {A : Type 0} (since w : SpecVersion) (b : Bool) (xs : List A) → b ≡ knows since w → b ≡ true → xs ≡ late_written since w xs
unfolding late_written
late_known since w b xs is e = if_is true (knows since w) xs [] (sym e ∙ is)

pub late_unknown : {A : Type 0} (since w : SpecVersion) (b : Bool) (xs : List A) → b ≡ knows since w → b ≡ false → late_written since w xs ≡ []
unfolding late_written
late_unknown since w b xs is e = if_is (knows since w) false xs [] (sym is ∙ e)

-- ---- attributes

pub attribute_there : (name : List ℕ) (k : Kind) (t : Tree) (w : SpecVersion) (n : OwnedName) (v : List ℕ) → IsLone k t → is_absent t ≡ false → n ≡ local name → v ≡ text_of t
    → record { name = n; value = v } ∷ [] ≡ attribute_written name k t w
unfolding attribute_written
attribute_there name k t w n v lone there is same =
    ap (λ m. record { name = m; value = v } ∷ []) is ∙ ap (λ s. record { name = local name; value = s } ∷ []) same
    ∙ if_is false (is_absent t) [] _ (sym there) ∙ ap (attribute_of name) (sym (lone.kept w))

pub attribute_none : (name : List ℕ) (k : Kind) (w : SpecVersion) → attribute_written name k absent w ≡ []
unfolding attribute_written kept
attribute_none name k w = refl

pub no_attribute_added : (old new : List OwnedAttribute) → new ≡ [] → old ≡ old ++ new
no_attribute_added old new e = sym (append-nil old) ∙ ap (λ s. old ++ s) (sym e)

-- ---- children

pub child_there : (name : List ℕ) (k : Kind) (t : Tree) (w : SpecVersion) → keeps_presence k ≡ true → is_absent t ≡ false → spelled_events t w name k ≡ child_written name k t w
unfolding child_written
child_there name k t w keeps there = if_is false (is_absent (keep w t k)) [] (spelled_events t w name k) (sym (presence_kept k keeps w w t ∙ there))

pub child_none : (name : List ℕ) (k : Kind) (w : SpecVersion) → child_written name k absent w ≡ []
unfolding child_written kept
child_none name k w = refl

pub filled_hollow : (name : List ℕ) (k : Kind) (t : Tree) (w : SpecVersion) (b : Bool) → KeepsHollow k t → b ≡ is_hollow t → b ≡ true → filled_written name k t w ≡ []
unfolding filled_written
filled_hollow name k t w b keeps is e = if_is (is_hollow (keep w t k)) true [] (child_written name k t w) (keeps w ∙ sym is ∙ e)

pub filled_there : (name : List ℕ) (k : Kind) (t : Tree) (w : SpecVersion) (b : Bool) → KeepsHollow k t → b ≡ is_hollow t → b ≡ false → child_written name k t w ≡ filled_written name k t w
unfolding filled_written
filled_there name k t w b keeps is e = if_is false (is_hollow (keep w t k)) [] (child_written name k t w) (sym (keeps w ∙ sym is ∙ e))

pub filled_none : (name : List ℕ) (k : Kind) (w : SpecVersion) → filled_written name k absent w ≡ []
unfolding filled_written child_written kept is_hollow
filled_none name k w = refl

-- ---- contents

pub inner_none : (w : SpecVersion) (k : Kind) → inner absent w k ≡ []
unfolding inner kept nodes_of
inner_none w k = refl

pub text_inner : (s : List ℕ) (w : SpecVersion) → Characters s ∷ [] ≡ inner (text s) w a_text
unfolding inner kept nodes_of
text_inner s w = refl

pub text_cdata : (s : List ℕ) (w : SpecVersion) → CData s ∷ [] ≡ cdata_written a_text (text s) w
unfolding cdata_written kept
text_cdata s w = refl

pub lone_written : (k : Kind) (t : Tree) (w : SpecVersion) (tag : List ℕ) (s : List ℕ) → IsLone k t → s ≡ text_of t → simple_tag tag s ≡ spelled_events t w tag k
unfolding spelled_events
lone_written k t w tag s lone e =
    ap (simple_tag tag) e
    ∙ ap (λ xs. events_of (plain_element tag [] xs)) (sym (lone.nodes w))
    ∙ ap (λ q. events_of (plain_element q [] (nodes_of t w k))) (sym (lone.tag tag))
    ∙ ap (λ as'. events_of (plain_element (tag_of k t tag) as' (nodes_of t w k))) (sym (lone.attributes w))
    ∙ ap (λ u. events_of (spelled u w tag k)) (sym (lone.kept w))

pub there_spelling : (tag : Tag) (t : Tree) (w : SpecVersion) (k : Kind) → is_absent t ≡ false → spelled_as tag t w k ≡ spelling tag t w k
there_spelling tag t w k there = if_is false (is_absent t) [] (spelled_as tag t w k) (sym there)
