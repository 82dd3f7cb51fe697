-- An element whose content is a text.
use Rattle.std.specs.Prelude.{ℕ, suc, ◌+◌, List, Result, Ok}
use Rattle.cdx_events.specs.declared.event.XmlEvent.{XmlEvent}
use Rattle.cdx_events.specs.declared.name.OwnedName.{OwnedName}
use Rattle.cdx_events.specs.Nodes.{Nodes}
use Rattle.cdx_events.specs.Cursor.{Cursor}
use Rattle.cdx_models.specs.declared.errors.XmlReadError.{XmlReadError}
use Rattle.cdx_models.specs.Trees.{Trees}
use Rattle.cdx_schema.specs.Results.{◌>>=◌}
use Rattle.cdx_leaf.specs.Attribute.{GivesAt}
use Rattle.cdx_leaf.specs.Reading.{Stands, Reads, behind_end}

-- the fields of the attributes, and the text
abbrev pub with_text : (Nodes → List ℕ → ℕ → Result (List ℕ) XmlReadError) → Result Trees XmlReadError → List ℕ → ℕ → Nodes → Result (Trees × List ℕ) XmlReadError
with_text read first el p nodes = first >>= λ ts. read nodes el (suc p) >>= λ s. Ok (ts, s)

abbrev pub ReadsContent : {A : Type 0} → (Nodes → List ℕ → ℕ → Result (List ℕ) XmlReadError) → Cursor → Cursor → OwnedName → Result A XmlReadError → Result (A × List ℕ) XmlReadError → Type 0
ReadsContent {A = A} read old new n begun result =
    (view : A → Trees) (first : Result Trees XmlReadError) (p : ℕ) (nodes : Nodes) (rest : List XmlEvent) → Stands old n p nodes rest → GivesAt view (p + 1) first begun
    → Reads (λ x. (view x.0, x.1)) old new (behind_end old nodes rest) (with_text read first n.local_name p nodes) result
