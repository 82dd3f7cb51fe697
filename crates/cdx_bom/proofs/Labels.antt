-- A bill's label, read from its text and written.
use Rattle.std.proofs.Common.{◌≡◌, ℕ, List, [], Bool, true, false, if◌then◌else◌, Some, None, Ok, Bor, refl, sym, ap, ◌∙◌, rules}
use Rattle.std.proofs.lemmas.Slice.Eq.{bytes_eq-Decides}
use Rattle.std.specs.Str.{bytes_eq}
use Rattle.serde_json.specs.Data.{Data, string, Members, put}
use Rattle.serde_json.specs.Data as json
use Rattle.serde_json.specs.Find.{as_str}
use Rattle.cdx_models.specs.declared.bom.SpecVersion.{SpecVersion}
use Rattle.cdx_models.specs.declared.bom.SpecVersion.TheVariants.{V1_3, V1_4, V1_5}
use Rattle.cdx_models.specs.declared.errors.JsonReadError.{JsonReadError}
use Rattle.cdx_models.specs.declared.errors.JsonKind.TheVariants.{WrongKind, BadSpecVersion}
use Rattle.cdx_models.specs.Trees.{text}
use Rattle.cdx_models.specs.Versions.{label, version_of}
use Rattle.cdx_schema.specs.Kinds.{a_version}
use Rattle.cdx_schema.specs.Depth.{Depth}
use Rattle.cdx_schema.specs.Faults.{here}
use Rattle.cdx_schema.specs.JsonReading.{jread, version_read}
use Rattle.cdx_schema.specs.JsonSpelling.{jspell}
use Rattle.cdx_schema.specs.Keeping.{kept}
use Rattle.cdx_json.specs.Gives.{Fails, IsFaultAt}
use Rattle.cdx_json.specs.KeptRows.{put_kept}
use Rattle.cdx_json.specs.Spellings.{spelling_data}
use Rattle.cdx_json.specs.declared.spelling.Spelling.{Text as text_of, the_lemmas}
use Rattle.cdx_json.proofs.Rows.{fails_here}
use Rattle.cdx_bom.specs.Trees.{label_tree}

labelled : (s : List ℕ) (w : SpecVersion) → Some w ≡ version_of s → version_read s ≡ Ok (text (label w))
labelled s w e = by (bytes_eq s (label V1_3)) (bytes_eq s (label V1_4)) (bytes_eq s (label V1_5)) (bytes_eq-Decides s (label V1_3)).0 (bytes_eq-Decides s (label V1_4)).0 (bytes_eq-Decides s (label V1_5)).0 e
  where
    by : (a b c : Bool) → (a ≡ true → s ≡ label V1_3) → (b ≡ true → s ≡ label V1_4) → (c ≡ true → s ≡ label V1_5)
        → Some w ≡ (if a then Some V1_3 else (if b then Some V1_4 else (if c then Some V1_5 else None)))
        → (if (if a then true else (if b then true else c)) then Ok (text s) else here BadSpecVersion) ≡ Ok (text (label w))
    by true b c p q r e = let same : w ≡ V1_3 = cc in ap (λ u. Ok (text u)) (p refl ∙ ap label (sym same))
    by false true c p q r e = let same : w ≡ V1_4 = cc in ap (λ u. Ok (text u)) (q refl ∙ ap label (sym same))
    by false false true p q r e = let same : w ≡ V1_5 = cc in ap (λ u. Ok (text u)) (r refl ∙ ap label (sym same))
    by false false false p q r e = absurd cc

not_labelled : (s : List ℕ) → None ≡ version_of s → version_read s ≡ here BadSpecVersion
not_labelled s e = by (bytes_eq s (label V1_3)) (bytes_eq s (label V1_4)) (bytes_eq s (label V1_5)) e
  where
    by : (a b c : Bool) → None ≡ (if a then Some V1_3 else (if b then Some V1_4 else (if c then Some V1_5 else None)))
        → (if (if a then true else (if b then true else c)) then Ok (text s) else here BadSpecVersion) ≡ here BadSpecVersion
    by true b c e = absurd cc
    by false true c e = absurd cc
    by false false true e = absurd cc
    by false false false e = refl

version_is : (x : Data) (s : List ℕ) (v : SpecVersion) (d : Depth) → Some s ≡ as_str x → jread x v a_version d ≡ version_read s
unfolding jread
version_is json.null s v d e = absurd cc
version_is (json.boolean b) s v d e = absurd cc
version_is (json.number n) s v d e = absurd cc
version_is (json.string r) s v d e = let same : r ≡ s = cc in ap version_read same
version_is (json.array ds) s v d e = absurd cc
version_is (json.object ms) s v d e = absurd cc

version_wrong : (x : Data) (v : SpecVersion) (d : Depth) → None ≡ as_str x → jread x v a_version d ≡ here WrongKind
unfolding jread
version_wrong json.null v d e = refl
version_wrong (json.boolean b) v d e = refl
version_wrong (json.number n) v d e = refl
version_wrong (json.string r) v d e = absurd cc
version_wrong (json.array ds) v d e = refl
version_wrong (json.object ms) v d e = refl

pub label_ok : (x : Data) (s : List ℕ) (w v : SpecVersion) (d : Depth) → Some s ≡ as_str x → Some w ≡ version_of s → jread x v a_version d ≡ Ok (text (label w))
label_ok x s w v d is e = version_is x s v d is ∙ labelled s w e

pub label_bad : (e : JsonReadError) (x : Data) (s : List ℕ) (v : SpecVersion) (d : Depth) → Some s ≡ as_str x → None ≡ version_of s → IsFaultAt [] BadSpecVersion e → Fails e (jread x v a_version d)
label_bad e x s v d is none at = fails_here e BadSpecVersion (jread x v a_version d) at (version_is x s v d is ∙ not_labelled s none)

pub label_wrong : (e : JsonReadError) (x : Data) (v : SpecVersion) (d : Depth) → None ≡ as_str x → IsFaultAt [] WrongKind e → Fails e (jread x v a_version d)
label_wrong e x v d is at = fails_here e WrongKind (jread x v a_version d) at (version_wrong x v d is)

-- ---- a label that is written is the version's

spelled_text : (s : Bor (List ℕ)) → spelling_data (text_of s) ≡ string s.now
spelled_text s = search (rules, the_lemmas)

pub label_put : (name : List ℕ) (s : Bor (List ℕ)) (l w : SpecVersion) (ms new : Members) → s.now ≡ label w → new ≡ put name (spelling_data (text_of s)) ms → new ≡ put_kept name a_version (label_tree l) w ms
unfolding put_kept kept jspell
label_put name s l w ms new is e = e ∙ ap (λ d. put name d ms) (spelled_text s ∙ ap string is)
