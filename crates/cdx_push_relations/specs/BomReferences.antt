-- References to other parts of the bill: an attribute, and nothing in the element.
use Rattle.std.specs.Prelude.{◌≡◌, refl, ℕ, suc, ◌+◌, List, codes, Option, Some, None, Result, Ok, Err}
use Rattle.std.proofs.Common.{sym, ap}
use Rattle.cdx_events.specs.declared.name.OwnedName.{OwnedName}
use Rattle.cdx_events.specs.declared.name.OwnedAttribute.{OwnedAttribute}
use Rattle.cdx_events.specs.declared.name.Namespace.{Namespace}
use Rattle.cdx_events.specs.Nodes.{characters, cdata, element, Nodes, no_nodes, node}
use Rattle.cdx_models.specs.declared.bom.SpecVersion.{SpecVersion}
use Rattle.cdx_models.specs.declared.errors.XmlReadError.{XmlReadError}
use Rattle.cdx_models.specs.Trees.{text, Trees, none, one, field}
use Rattle.cdx_schema.specs.Depth.{Depth}
use Rattle.cdx_schema.specs.Faults.{lacking}
use Rattle.cdx_schema.specs.Kinds.{a_reference}
use Rattle.cdx_schema.specs.Locality.{fault_place}
use Rattle.cdx_schema.specs.Nodes.{places_of}
use Rattle.cdx_schema.specs.Results.{◌>>=◌}
use Rattle.cdx_schema.specs.XmlReading.{find_attribute, no_plan, xread, nodes_read}
use Rattle.cdx_schema.proofs.FaultPlaces.{ok_err, err_same}
use Rattle.cdx_machine.specs.Contents.{First}
use Rattle.cdx_machine.specs.Frames.{Last, IsFrame, read_so_far}

-- what the attribute begins, which has to be there
abbrev pub reference_by : Option (List ℕ) → List ℕ → ℕ → Result Trees XmlReadError
reference_by None el p = Err (lacking p el (codes "ref"))
reference_by (Some s) el p = Ok (one (text s))

abbrev pub reference_first : First
reference_first el a v p = reference_by (find_attribute (codes "ref") a) el p

abbrev pub reference_last : Last
reference_last el v q ts = Ok (field 0 ts)

-- Where no child is known, the nodes leave the fields alone.
kept : (xs : Nodes) (s el : List ℕ) (v : SpecVersion) (d : Depth) (q : ℕ) → (nodes_read xs no_plan el v d q none >>= λ ts. Ok (text s)) ≡ (nodes_read xs no_plan el v d q (one (text s)) >>= λ ts. Ok (field 0 ts))
unfolding xread
kept no_nodes s el v d q = refl
kept (node (characters t) xs) s el v d q = refl
kept (node (cdata t) xs) s el v d q = refl
kept (node (element n a z ys) xs) s el v d q = refl

first_place : (o : Option (List ℕ)) (el : List ℕ) (p : ℕ) (f : XmlReadError) → reference_by o el p ≡ Err f → fault_place f ≡ p
first_place None el p f h = ap fault_place (sym (err_same h))
first_place (Some s) el p f h = ok_err h

pub reference_frame : IsFrame a_reference no_plan reference_first reference_last
unfolding xread
reference_frame = record {
  reads = λ n a s xs v p d. by (find_attribute (codes "ref") a) n a s xs v p d refl;
  first_place = λ el a v p f h. first_place (find_attribute (codes "ref") a) el p f h;
  last_place = λ el v q ts f h. ok_err h;
}
  where
    by : (o : Option (List ℕ)) (n : OwnedName) (a : List OwnedAttribute) (s : Namespace) (xs : Nodes) (v : SpecVersion) (p : ℕ) (d : Depth) → find_attribute (codes "ref") a ≡ o → xread (element n a s xs) v a_reference p d ≡ (read_so_far reference_first no_plan n.local_name a v d p xs >>= λ ts. reference_last n.local_name v (suc (p + places_of xs)) ts)
    by None n a s xs v p d is = rw is refl
    by (Some t) n a s xs v p d is = rw is (kept xs t n.local_name v d (suc p))
