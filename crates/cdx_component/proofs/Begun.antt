-- Components that are read from XML in groups of rows: their attributes, and what is missing at their end.
use Rattle.std.proofs.Common.{◌≡◌, ℕ, List, [], ◌∷◌, ◌++◌, Option, Some, None, Result, Ok, Err, refl, sym, ap, ◌∙◌, subst}
use Rattle.std.specs.Prelude.{codes}
use Rattle.cdx_events.specs.declared.name.OwnedAttribute.{OwnedAttribute}
use Rattle.cdx_models.specs.declared.errors.XmlReadError.{XmlReadError}
use Rattle.cdx_models.specs.declared.bom.SpecVersion.{SpecVersion}
use Rattle.cdx_models.specs.declared.bom.SpecVersion.TheVariants.{V1_3, V1_4, V1_5}
use Rattle.cdx_models.specs.Trees.{component, pedigree, absent, Trees, trees, ◌⧺◌}
use Rattle.cdx_schema.specs.Faults.{lacking}
use Rattle.cdx_schema.specs.Results.{◌>>=◌}
use Rattle.cdx_schema.specs.Table.{rows}
use Rattle.cdx_schema.specs.XmlReading.{attributes_read, ended}
use Rattle.cdx_schema.specs.Groups.{group}
use Rattle.cdx_leaf.specs.Attribute.{or_fault}
use Rattle.cdx_leaf.specs.Fault.{FailsAt}
use Rattle.cdx_leaf.proofs.Groups.{attributes_of_two, ended_of_two}
use Rattle.cdx_leaf.proofs.Records.{first_fails, then_fails}
use Rattle.cdx_component.specs.PartTrees.{origin_trees, naming_trees, marks_trees, contents_trees}
use Rattle.cdx_component.specs.ReadingParts.{naming_part, component_part, pedigree_part, in_first}
use Rattle.cdx_component.specs.declared.component.parts.Origin.{Origin}
use Rattle.cdx_component.specs.declared.component.parts.Marks.{Marks}
use Rattle.cdx_component.specs.declared.component.parts.Contents.{Contents}
use Rattle.cdx_component.specs.declared.xml.reading.parts.NamingPart.{NamingPart}
use Rattle.cdx_component.specs.declared.xml.reading.parts.ComponentPart.{ComponentPart}
use Rattle.cdx_component.specs.declared.xml.reading.parts.PedigreePart.{PedigreePart}
use Rattle.cdx_component.proofs.Grouped.{component_rows}

-- six rows that hold nothing yet
abbrev pub blank : Trees
blank = trees (absent ∷ absent ∷ absent ∷ absent ∷ absent ∷ absent ∷ [])

-- ---- attributes

module _ (as' : List OwnedAttribute) (v : SpecVersion) (el : List ℕ) (p : ℕ) where
  -- the rows behind the first six are no attributes
  others_blank : attributes_read (group 1 component ++ (group 2 component ++ group 3 component)) as' v el p ≡ Ok (blank ⧺ (blank ⧺ blank))
  unfolding rows attributes_read
  others_blank = refl

  by_origin : attributes_read (rows component) as' v el p ≡ (attributes_read (group 0 component) as' v el p >>= λ ts. attributes_read (group 1 component ++ (group 2 component ++ group 3 component)) as' v el p >>= λ us. Ok (ts ⧺ us))
  by_origin = ap (λ rs. attributes_read rs as' v el p) component_rows ∙ attributes_of_two (group 0 component) (group 1 component ++ (group 2 component ++ group 3 component)) as' v el p

  pub component_begins : (o : Trees) → attributes_read (group 0 component) as' v el p ≡ Ok o → attributes_read (rows component) as' v el p ≡ Ok (o ⧺ (blank ⧺ (blank ⧺ blank)))
  component_begins o e =
      by_origin ∙ ap (λ r. r >>= λ ts. attributes_read (group 1 component ++ (group 2 component ++ group 3 component)) as' v el p >>= λ us. Ok (ts ⧺ us)) e
      ∙ ap (λ r. r >>= λ us. Ok (o ⧺ us)) others_blank

  pub component_begins_not : (e : XmlReadError) (q : ℕ) → FailsAt e q (attributes_read (group 0 component) as' v el p) → FailsAt e q (attributes_read (rows component) as' v el p)
  component_begins_not e q h =
      subst (λ r. FailsAt e q r) (sym by_origin) (first_fails e q (attributes_read (group 0 component) as' v el p) (λ ts. attributes_read (group 1 component ++ (group 2 component ++ group 3 component)) as' v el p >>= λ us. Ok (ts ⧺ us)) h)

  pub pedigree_begins : attributes_read (rows pedigree) as' v el p ≡ Ok blank
  unfolding rows attributes_read
  pedigree_begins = refl

-- ---- ends

-- The name has to be there, and then in 1.3 the version.
abbrev pub named : NamingPart → SpecVersion → List ℕ → ℕ → Result Trees XmlReadError
named p v el q = or_fault p.name (lacking q el (codes "name")) >>= λ n. in_first v p.version (lacking q el (codes "version")) >>= λ w. Ok (naming_trees (record { group = p.group; name = n; version = w; description = p.description; scope = p.scope; hashes = p.hashes }))

pub naming_ends : (p : NamingPart) (v : SpecVersion) (el : List ℕ) (q : ℕ) → ended (group 1 component) (naming_part p) v el q ≡ named p v el q
unfolding rows ended
naming_ends p v el q = go p.name v p.version
  where
    go : (n : Option (List ℕ)) (u : SpecVersion) (w : Option (List ℕ)) → ended (group 1 component) (naming_part (record p { name = n; version = w })) u el q ≡ named (record p { name = n; version = w }) u el q
    go None u w = refl
    go (Some n) V1_3 None = refl
    go (Some n) V1_3 (Some w) = refl
    go (Some n) V1_4 w = refl
    go (Some n) V1_5 w = refl

-- the name is missing; or else in 1.3 the version; or else nothing
pub name_lacks : (p : NamingPart) (v : SpecVersion) (el : List ℕ) (q : ℕ) (e : XmlReadError) (place : ℕ) → FailsAt e place (or_fault p.name (lacking q el (codes "name"))) → FailsAt e place (ended (group 1 component) (naming_part p) v el q)
name_lacks p v el q e place h =
    subst (λ r. FailsAt e place r) (sym (naming_ends p v el q)) (first_fails e place (or_fault p.name (lacking q el (codes "name"))) _ h)

pub version_lacks : (p : NamingPart) (v : SpecVersion) (el : List ℕ) (q : ℕ) (n : List ℕ) (e : XmlReadError) (place : ℕ) → or_fault p.name (lacking q el (codes "name")) ≡ Ok n → FailsAt e place (in_first v p.version (lacking q el (codes "version"))) → FailsAt e place (ended (group 1 component) (naming_part p) v el q)
version_lacks p v el q n e place is h =
    subst (λ r. FailsAt e place r) (sym (naming_ends p v el q))
    (then_fails e place (or_fault p.name (lacking q el (codes "name"))) n _ is (first_fails e place (in_first v p.version (lacking q el (codes "version"))) _ h))

pub naming_whole : (p : NamingPart) (v : SpecVersion) (el : List ℕ) (q : ℕ) (n : List ℕ) (w : Option (List ℕ)) → or_fault p.name (lacking q el (codes "name")) ≡ Ok n → in_first v p.version (lacking q el (codes "version")) ≡ Ok w
    → ended (group 1 component) (naming_part p) v el q ≡ Ok (naming_trees (record { group = p.group; name = n; version = w; description = p.description; scope = p.scope; hashes = p.hashes }))
naming_whole p v el q n w is has = naming_ends p v el q ∙ rw (is, has) refl

origin_ends : (o : Origin) (v : SpecVersion) (el : List ℕ) (q : ℕ) → ended (group 0 component) (origin_trees o) v el q ≡ Ok (origin_trees o)
unfolding rows ended
origin_ends o v el q = refl

others_end : (m : Marks) (c : Contents) (v : SpecVersion) (el : List ℕ) (q : ℕ) → ended (group 2 component ++ group 3 component) (marks_trees m ⧺ contents_trees c) v el q ≡ Ok (marks_trees m ⧺ contents_trees c)
unfolding rows ended
others_end m c v el q = refl

pub pedigree_ends : (p : PedigreePart) (v : SpecVersion) (el : List ℕ) (q : ℕ) → ended (rows pedigree) (pedigree_part p) v el q ≡ Ok (pedigree_part p)
unfolding rows ended
pedigree_ends p v el q = refl

-- what is missing of a component is missing of its name's rows
pub component_ends : (x : ComponentPart) (v : SpecVersion) (el : List ℕ) (q : ℕ)
    → ended (rows component) (component_part x) v el q ≡ (ended (group 1 component) (naming_part x.naming) v el q >>= λ ns. Ok (origin_trees x.origin ⧺ (ns ⧺ (marks_trees x.marks ⧺ contents_trees x.contents))))
unfolding rows
component_ends x v el q =
    let last = group 2 component ++ group 3 component in
    let end = marks_trees x.marks ⧺ contents_trees x.contents in
    ap (λ rs. ended rs (component_part x) v el q) component_rows
    ∙ ended_of_two (group 0 component) (group 1 component ++ last) (origin_trees x.origin) (naming_part x.naming ⧺ end) v el q refl
    ∙ ap (λ r. r >>= λ xs. ended (group 1 component ++ last) (naming_part x.naming ⧺ end) v el q >>= λ ys. Ok (xs ⧺ ys)) (origin_ends x.origin v el q)
    ∙ ap (λ r. r >>= λ ys. Ok (origin_trees x.origin ⧺ ys)) (ended_of_two (group 1 component) last (naming_part x.naming) end v el q refl)
    ∙ through (ended (group 1 component) (naming_part x.naming) v el q) (origin_trees x.origin) (ended last end v el q) end (others_end x.marks x.contents v el q)
  where
    through : (r : Result Trees XmlReadError) (o : Trees) (s : Result Trees XmlReadError) (e : Trees) → s ≡ Ok e → ((r >>= λ xs. s >>= λ ys. Ok (xs ⧺ ys)) >>= λ ys. Ok (o ⧺ ys)) ≡ (r >>= λ ns. Ok (o ⧺ (ns ⧺ e)))
    through (Ok ns) o s e is = ap (λ z. (z >>= λ ys. Ok (ns ⧺ ys)) >>= λ ys. Ok (o ⧺ ys)) is
    through (Err f) o s e is = refl

pub component_lacks : (x : ComponentPart) (v : SpecVersion) (el : List ℕ) (q : ℕ) (e : XmlReadError) (place : ℕ) → FailsAt e place (ended (group 1 component) (naming_part x.naming) v el q) → FailsAt e place (ended (rows component) (component_part x) v el q)
component_lacks x v el q e place h =
    subst (λ r. FailsAt e place r) (sym (component_ends x v el q))
    (first_fails e place (ended (group 1 component) (naming_part x.naming) v el q) (λ ns. Ok (origin_trees x.origin ⧺ (ns ⧺ (marks_trees x.marks ⧺ contents_trees x.contents)))) h)
