-- The road of a made bill is the one that its answer counts.
use Rattle.std.proofs.Common.{◌≡◌, ℕ, List, [], ◌∷◌, false, Ok, sym, ap, subst, ◌∙◌}
use Rattle.std.specs.declared.alloc.AllocError.{AllocError}
use Rattle.std.proofs.lemmas.Bool.{or_parts}
use Rattle.serde_json.specs.Data.{Data}
use Rattle.serde_json.specs.Written.{has_float}
use Rattle.cdx_models.specs.declared.bom.SpecVersion.TheVariants.{V1_5}
use Rattle.cdx_models.specs.Trees.{Tree}
use Rattle.cdx_schema.specs.Kinds.{a_bill}
use Rattle.cdx_schema.specs.Keeping.{keep}
use Rattle.cdx_schema.specs.JsonSpelling.{jspell}
use Rattle.cdx_schema.specs.Roads as roads
use Rattle.cdx_schema.specs.Roads.{json, xml}
use Rattle.cdx_bom.specs.declared.doc.Doc.{Doc}
use Rattle.cdx_bom.specs.declared.doc.RoadError.{RoadError}
use Rattle.cdx_bom.specs.declared.doc.RoadError.TheVariants as error
use Rattle.cdx_bom.specs.Docs.{AreDocs, Refuses}
use Rattle.cdx_request.specs.Replies.{doc_value}
use Rattle.cdx_request.specs.Made.{made_bill, made_doc, made_hops, made_road}
use Rattle.cdx_request.specs.Served.{IsMade, NoFloats}
use Rattle.cdx_request.proofs.AnswerFloats.{same_ok}
use Rattle.cdx_request.proofs.MadeRoad.{bill_kept}
use Rattle.cdx_tool.proofs.Answering.{refuses}

-- what 1.5 keeps of a made bill is spelled as the bill
pub spelled : (n : ℕ) (x : Data) (t : Tree) → x ≡ jspell (keep V1_5 t a_bill) V1_5 a_bill → t ≡ made_bill n → x ≡ jspell (made_bill n) V1_5 a_bill
spelled n x t is made = is ∙ ap (λ b. jspell b V1_5 a_bill) (ap (λ b. keep V1_5 b a_bill) made ∙ bill_kept n)

pub the_docs : (n : ℕ) (m : IsMade n) (ds : List Doc) (ys : List roads.Doc) → made_road n ≡ Ok ys → AreDocs ds ys → AreDocs ds (xml m.root ∷ json m.value ∷ [])
the_docs n m ds ys is are = subst (AreDocs ds) (same_ok ys (xml m.root ∷ json m.value ∷ []) (sym is ∙ m.led)) are

-- the second document holds no float
pub value_clear : (n : ℕ) (m : IsMade n) → NoFloats → has_float m.value ≡ false
value_clear n m law =
    let whole = or_parts _ false (law (made_doc n) V1_5 made_hops (xml m.root ∷ json m.value ∷ []) m.led) in
    let both = or_parts (has_float (doc_value (xml m.root))) _ whole.0 in
    let second = or_parts (has_float (doc_value (json m.value))) false both.1 in
    (or_parts (has_float m.value) false second.0).0

-- the road isn't refused
pub not_refused : (n : ℕ) (m : IsMade n) (e : RoadError) → ((a : AllocError) → e ≡ error.Memory a → ⊥) → Refuses (made_road n) e → ⊥
not_refused n m e other h = let r = (refuses (made_road n) e other h).2 in let l = m.led in absurd cc
