-- Signatures, their signers and their chains.
use Rattle.std.specs.Prelude.{◌≡◌, refl, ℕ, suc, List, [], ◌∷◌, Result, Ok, Err}
use Rattle.cdx_models.specs.declared.bom.SpecVersion.{SpecVersion}
use Rattle.cdx_models.specs.declared.errors.XmlReadError.{XmlReadError}
use Rattle.cdx_models.specs.Trees.{signer, signers, chain, Tree, absent, text, number, boolean, items, fields, Trees, none, more, two, field}
use Rattle.cdx_schema.specs.Kinds.{a_record, a_signature}
use Rattle.cdx_schema.specs.Locality.{fault_place}
use Rattle.cdx_schema.specs.Results.{◌>>=◌}
use Rattle.cdx_schema.specs.Table.{rows, list}
use Rattle.cdx_schema.specs.XmlReading.{record_plan, signature_plan, signature_of, Element, end_of, ended, xread, nodes_read}
use Rattle.cdx_schema.proofs.FaultPlaces.{ok_err, bind_err, ended_place}
use Rattle.cdx_machine.specs.Contents.{First}
use Rattle.cdx_machine.specs.Frames.{Last, IsFrame}
use Rattle.cdx_machine.specs.Several.{kinds_of}

pub signers_kinds : a_record signer ∷ [] ≡ kinds_of (record_plan signers).children
unfolding rows list
signers_kinds = refl

pub chain_kinds : a_record signer ∷ [] ≡ kinds_of (record_plan chain).children
unfolding rows list
chain_kinds = refl

abbrev pub signature_first : First
signature_first el a v p = Ok (more absent (two absent absent))

-- the single signer, unless a list was read
abbrev pub signature_by : Tree → List ℕ → SpecVersion → ℕ → Trees → Result Tree XmlReadError
signature_by absent el v q ts = ended (rows signer) (two (field 1 ts) (field 2 ts)) v el q >>= λ us. Ok (fields signer us)
signature_by t el v q ts = Ok t

abbrev pub signature_last : Last
signature_last el v q ts = signature_by (field 0 ts) el v q ts

signature_is : (e : Element) (v : SpecVersion) (ts : Trees) → signature_of e v ts ≡ signature_last e.name v (end_of e) ts
signature_is e v none = refl
signature_is e v (more absent us) = refl
signature_is e v (more (text s) us) = refl
signature_is e v (more (number n) us) = refl
signature_is e v (more (boolean b) us) = refl
signature_is e v (more (items xs) us) = refl
signature_is e v (more (fields k xs) us) = refl

under : (r : Result Trees XmlReadError) (e : Element) (v : SpecVersion) → (r >>= λ ts. signature_of e v ts) ≡ (r >>= λ ts. signature_last e.name v (end_of e) ts)
under (Ok ts) e v = signature_is e v ts
under (Err f) e v = refl

signature_place : (t : Tree) (el : List ℕ) (v : SpecVersion) (q : ℕ) (ts : Trees) (f : XmlReadError) → signature_by t el v q ts ≡ Err f → fault_place f ≡ q
signature_place absent el v q ts f h = bind_err (ended (rows signer) (two (field 1 ts) (field 2 ts)) v el q) (λ us. Ok (fields signer us)) f h (λ e. ended_place (rows signer) (two (field 1 ts) (field 2 ts)) v el q f e) (λ us i j. ok_err j)
signature_place (text s) el v q ts f h = ok_err h
signature_place (number n) el v q ts f h = ok_err h
signature_place (boolean b) el v q ts f h = ok_err h
signature_place (items xs) el v q ts f h = ok_err h
signature_place (fields k xs) el v q ts f h = ok_err h

pub signature_frame : IsFrame a_signature signature_plan signature_first signature_last
unfolding xread
signature_frame = record {
  reads = λ n a s xs v p d. under (nodes_read xs signature_plan n.local_name v d (suc p) (more absent (two absent absent))) (record { name = n.local_name; attributes = a; namespace = s.default; nodes = xs; start = p; read = λ plan w e ts. nodes_read xs plan n.local_name w e (suc p) ts }) v;
  first_place = λ el a v p f h. ok_err h;
  last_place = λ el v q ts f h. signature_place (field 0 ts) el v q ts f h;
}
