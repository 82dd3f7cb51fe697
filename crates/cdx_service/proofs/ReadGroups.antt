-- A service that is read from XML: what its attributes begin, and what its children come to at its end.
use Rattle.std.proofs.Common.{◌≡◌, ℕ, ◌+◌, List, [], ◌∷◌, ◌++◌, None, Option, Ok, refl, sym, ap, ◌∙◌, subst}
use Rattle.std.specs.Prelude.{codes}
use Rattle.cdx_events.specs.declared.name.OwnedAttribute.{OwnedAttribute}
use Rattle.cdx_models.specs.declared.errors.XmlReadError.{XmlReadError}
use Rattle.cdx_models.specs.declared.bom.SpecVersion.{SpecVersion}
use Rattle.cdx_models.specs.declared.bom.SpecVersion.TheVariants.{V1_3}
use Rattle.cdx_models.specs.Trees.{service, Trees, text, absent, more, trees, fields, present, ◌⧺◌}
use Rattle.cdx_schema.specs.Kinds.{Row, member, optional}
use Rattle.cdx_schema.specs.Results.{◌>>=◌}
use Rattle.cdx_schema.specs.Table.{rows}
use Rattle.cdx_schema.specs.XmlReading.{find_attribute, attributes_read, ended}
use Rattle.cdx_schema.specs.Groups.{group}
use Rattle.cdx_leaf.specs.Attribute.{text_row}
use Rattle.cdx_leaf.specs.Fault.{FailsAt}
use Rattle.cdx_leaf.proofs.Attributes.{row_ok, maybe_row}
use Rattle.cdx_leaf.proofs.Groups.{ended_of_two}
use Rattle.cdx_leaf.proofs.Records.{first_fails}
use Rattle.cdx_machine.specs.Records.{record_end}
use Rattle.cdx_service.specs.declared.service.Service.{Service}
use Rattle.cdx_service.specs.declared.service.parts.ServiceNaming.{ServiceNaming}
use Rattle.cdx_service.specs.declared.service.parts.ServiceAccess.{ServiceAccess}
use Rattle.cdx_service.specs.declared.service.parts.ServiceContents.{ServiceContents}
use Rattle.cdx_service.specs.declared.xml.reading.parts.ServicePart.{ServicePart}
use Rattle.cdx_service.specs.Trees.{service_tree}
use Rattle.cdx_service.specs.PartTrees.{service_naming_trees, service_access_trees, service_contents_trees}
use Rattle.cdx_service.specs.ReadingParts.{naming_part, service_part}

-- ---- the end

-- the rows after the first group
abbrev later : List Row
later = group 1 service ++ group 2 service

later_ended : (a : ServiceAccess) (b : ServiceContents) (v : SpecVersion) (el : List ℕ) (p : ℕ) → ended later (service_access_trees a ⧺ service_contents_trees b) v el p ≡ Ok (service_access_trees a ⧺ service_contents_trees b)
unfolding rows ended
later_ended a b v el p = refl

-- with the rows after the first group
abbrev with_later : ServicePart → Trees → Trees
with_later x ts = ts ⧺ (service_access_trees x.access ⧺ service_contents_trees x.contents)

ended_is : (x : ServicePart) (v : SpecVersion) (el : List ℕ) (p : ℕ)
    → ended (rows service) (service_part x) v el p ≡ (ended (group 0 service) (naming_part x.naming) v el p >>= λ ts. Ok (with_later x ts))
unfolding rows
ended_is x v el p =
    ended_of_two (group 0 service) later (naming_part x.naming) (service_access_trees x.access ⧺ service_contents_trees x.contents) v el p refl
    ∙ ap (λ r. ended (group 0 service) (naming_part x.naming) v el p >>= λ ts. r >>= λ us. Ok (ts ⧺ us)) (later_ended x.access x.contents v el p)

end_is : (x : ServicePart) (v : SpecVersion) (el : List ℕ) (p : ℕ)
    → record_end service el v p (service_part x) ≡ ((ended (group 0 service) (naming_part x.naming) v el p >>= λ ts. Ok (with_later x ts)) >>= λ us. Ok (fields service us))
end_is x v el p = ap (λ r. r >>= λ us. Ok (fields service us)) (ended_is x v el p)

-- the first group misses something
pub service_lacks : (e : XmlReadError) (x : ServicePart) (v : SpecVersion) (el : List ℕ) (p : ℕ) → FailsAt e (p + 1) (ended (group 0 service) (naming_part x.naming) v el p) → FailsAt e (p + 1) (record_end service el v p (service_part x))
service_lacks e x v el p h =
    let first = ended (group 0 service) (naming_part x.naming) v el p in
    subst (λ r. FailsAt e (p + 1) r) (sym (end_is x v el p))
    (first_fails e (p + 1) (first >>= λ ts. Ok (with_later x ts)) (λ us. Ok (fields service us)) (first_fails e (p + 1) first (λ ts. Ok (with_later x ts)) h))

-- nothing is missing
pub service_ended : (s : Service) (naming : ServiceNaming) (x : ServicePart) (v : SpecVersion) (el : List ℕ) (p : ℕ) → ended (group 0 service) (naming_part x.naming) v el p ≡ Ok (service_naming_trees naming)
    → service_tree s ≡ fields service (with_later x (service_naming_trees naming)) → record_end service el v p (service_part x) ≡ Ok (service_tree s)
service_ended s naming x v el p h is =
    end_is x v el p
    ∙ (ap (λ r. (r >>= λ ts. Ok (with_later x ts)) >>= λ us. Ok (fields service us)) h
    ∙ ap (λ t. Ok t) (sym is))

-- ---- the attributes

-- the rows after the first
abbrev rows_after : List Row → List Row
rows_after [] = []
rows_after (r ∷ rs) = rs

others_absent : (as' : List OwnedAttribute) (v : SpecVersion) (el : List ℕ) (p : ℕ) → attributes_read (rows_after (rows service)) as' v el p ≡ Ok (trees (absent ∷ absent ∷ absent ∷ absent ∷ absent ∷ absent ∷ absent ∷ absent ∷ absent ∷ absent ∷ absent ∷ absent ∷ absent ∷ absent ∷ absent ∷ []))
unfolding rows attributes_read
others_absent as' v el p = refl

-- Only the reference is an attribute.
pub service_begins : (as' : List OwnedAttribute) (v : SpecVersion) (el : List ℕ) (p : ℕ) (x : Option (List ℕ)) → x ≡ find_attribute (codes "bom-ref") as'
    → attributes_read (rows service) as' v el p ≡ Ok (more (present text x) (trees (absent ∷ absent ∷ absent ∷ absent ∷ absent ∷ absent ∷ absent ∷ absent ∷ absent ∷ absent ∷ absent ∷ absent ∷ absent ∷ absent ∷ absent ∷ [])))
unfolding rows
service_begins as' v el p x e =
    let first = text_row (codes "bom-ref") (member (codes "bom-ref")) None V1_3 optional in
    row_ok as' v el p first (rows_after (rows service)) (present text x) _ (maybe_row as' v el p (codes "bom-ref") (member (codes "bom-ref")) _ V1_3 x e) (others_absent as' v el p)
