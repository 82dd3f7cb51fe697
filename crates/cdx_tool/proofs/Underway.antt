-- The documents of a road, each printed as it is made.
use Rattle.std.proofs.Common.{◌≡◌, ◌∙◌, refl, sym, ap, subst, ℕ, List, [], ◌∷◌, ◌++◌, map, codes, true, false, Result, Ok, Err, append_assoc}
use Rattle.std.proofs.lemmas.List.{map-append}
use Rattle.serde_json.specs.View.{items_of}
use Rattle.serde_json.specs.Written.{compact_text, items_text}
use Rattle.cdx_models.specs.declared.bom.SpecVersion.{SpecVersion}
use Rattle.cdx_schema.specs.Results.{◌>>=◌}
use Rattle.cdx_schema.specs.Roads as roads
use Rattle.cdx_schema.specs.Roads.{Refusal, denotes, hops_from}
use Rattle.cdx_bom.specs.declared.bom.Bom.{Bom}
use Rattle.cdx_bom.specs.declared.doc.Hop.{Hop}
use Rattle.cdx_bom.specs.declared.doc.RoadError.{RoadError}
use Rattle.cdx_bom.specs.Trees.{bom_tree}
use Rattle.cdx_bom.specs.Docs.{Refuses, hop_of, hops_of}
use Rattle.cdx_bom.specs.Hops.{IsDenoted, hop_document}
use Rattle.cdx_bom.proofs.Carried.{refused_on}
use Rattle.cdx_request.specs.Replies.{doc_value}
use Rattle.cdx_tool.specs.Prints.{PrintsItems, PrintsRoad}

-- the document that a hop makes of a bill
abbrev made : Bom → Hop → roads.Doc
made b h = hop_document (bom_tree b) (hop_of h)

-- These documents were printed, the last of them the hop's. The rest goes on from it.
pub record IsUnderway (start : Bom) (hops rest : List Hop) (old new : List ℕ) (bill : Bom) (hop : Hop) : Type 0 where
  pub ys : List roads.Doc
  pub known : IsDenoted (bom_tree start) → IsDenoted (bom_tree bill)
  pub printed : PrintsItems (map doc_value ys) old false new true
  pub whole : (x : roads.Doc) (v : SpecVersion) → denotes x v ≡ Ok (bom_tree start) → hops_from x v (hops_of hops) ≡ (hops_from (made bill hop) hop.version (hops_of rest) >>= λ more. Ok (ys ++ more))

append_again : {A : Type 0} (xs : List A) (y : A) (ys : List A) → xs ++ y ∷ ys ≡ (xs ++ y ∷ []) ++ ys
append_again [] y ys = refl
append_again (x ∷ xs) y ys = ap (x ∷◌) (append_again xs y ys)

module _ (start : Bom) (hops : List Hop) (old : List ℕ) where
  -- the first document
  pub begins : (h : Hop) (rest : List Hop) (new : List ℕ) → hops ≡ h ∷ rest → new ≡ old ++ compact_text (doc_value (made start h)) → IsUnderway start hops rest old new start h
  begins h rest new is text = record {
    ys = made start h ∷ [];
    known = λ k. k;
    printed = λ more. ap (λ s. s ++ items_text true (items_of more)) text ∙ append_assoc old (compact_text (doc_value (made start h))) (items_text true (items_of more));
    whole = λ x v e. ap (λ hs. hops_from x v (hops_of hs)) is ∙ ap (λ r. r >>= λ b. (hops_from (hop_document b (hop_of h)) h.version (hops_of rest) >>= λ more. Ok (hop_document b (hop_of h) ∷ more))) e;
  }

  -- one more
  pub goes_on : (next : Hop) (rest : List Hop) (new : List ℕ) (bill : Bom) (h : Hop) (a : IsUnderway start hops (next ∷ rest) old new bill h) (read : Bom) (now : List ℕ)
      → (IsDenoted (bom_tree bill) → denotes (made bill h) h.version ≡ Ok (bom_tree read)) → now ≡ (new ++ codes ",") ++ compact_text (doc_value (made read next)) → IsUnderway start hops rest old now read next
  goes_on next rest new bill h a read now e text = record {
    ys = a.ys ++ y ∷ [];
    known = λ k. (made bill h, h.version, e (a.known k));
    printed = λ more.
        ap (λ s. s ++ items_text true (items_of more)) text
        ∙ (append_assoc (new ++ codes ",") (compact_text (doc_value y)) (items_text true (items_of more))
        ∙ (append_assoc new (codes ",") (compact_text (doc_value y) ++ items_text true (items_of more))
        ∙ (a.printed (doc_value y ∷ more)
        ∙ ap (λ ds. old ++ items_text false (items_of ds)) (append_again (map doc_value a.ys) (doc_value y) more ∙ ap (λ ds. ds ++ more) (sym (map-append doc_value a.ys (y ∷ [])))))));
    whole = λ x w i. a.whole x w i ∙ (ap (λ r. (r >>= λ b. (hops_from (hop_document b (hop_of next)) next.version (hops_of rest) >>= λ more. Ok (hop_document b (hop_of next) ∷ more))) >>= λ more. Ok (a.ys ++ more)) (e (a.known (x, w, i))) ∙ joined (hops_from y next.version (hops_of rest)));
  }
    where
      y : roads.Doc
      y = made read next

      joined : (r : Result (List roads.Doc) Refusal) → ((r >>= λ more. Ok (y ∷ more)) >>= λ more. Ok (a.ys ++ more)) ≡ (r >>= λ more. Ok ((a.ys ++ y ∷ []) ++ more))
      joined (Ok more) = ap Ok (append_again a.ys y more)
      joined (Err f) = refl

  -- what a hop has written is refused
  pub stops : (next : Hop) (rest : List Hop) (new : List ℕ) (bill : Bom) (h : Hop) (a : IsUnderway start hops (next ∷ rest) old new bill h) (e : RoadError) → (IsDenoted (bom_tree bill) → Refuses (denotes (made bill h) h.version) e)
      → (x : roads.Doc) (w : SpecVersion) → denotes x w ≡ Ok (bom_tree start) → Refuses (hops_from x w (hops_of hops)) e
  stops next rest new bill h a e r x w d =
      subst (λ q. Refuses q e) (sym (a.whole x w d))
      (refused_on e (hops_from (made bill h) h.version (hops_of (next ∷ rest))) (λ more. Ok (a.ys ++ more))
      (refused_on e (denotes (made bill h) h.version) (λ b. (hops_from (hop_document b (hop_of next)) next.version (hops_of rest) >>= λ more. Ok (hop_document b (hop_of next) ∷ more))) (r (a.known (x, w, d)))))

  -- no hop is left
  pub ends : (new : List ℕ) (bill : Bom) (h : Hop) (a : IsUnderway start hops [] old new bill h) (now : List ℕ) → now ≡ new ++ codes "]" → (x : roads.Doc) (w : SpecVersion) → denotes x w ≡ Ok (bom_tree start) → PrintsRoad (hops_from x w (hops_of hops)) old now (Ok tt)
  ends new bill h a now text x w i = (a.ys ++ [], a.whole x w i, text ∙ (a.printed [] ∙ ap (λ ds. old ++ items_text false (items_of ds)) (sym (map-append doc_value a.ys []))))
