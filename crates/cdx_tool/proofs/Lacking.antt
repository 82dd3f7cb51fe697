-- What is answered to a request whose document has no bill, or whose bill has no road.
use Rattle.std.proofs.Common.{◌≡◌, ℕ, List, true, false, Option, Some, None, option_map, Result, Ok, Err, IfOk, refl, sym, ap, subst, ◌∙◌, arith}
use Rattle.std.specs.declared.alloc.AllocError.{AllocError}
use Rattle.serde_json.specs.Data.{Data, null}
use Rattle.cdx_models.specs.declared.bom.SpecVersion.{SpecVersion}
use Rattle.cdx_models.specs.Trees.{Tree}
use Rattle.cdx_schema.specs.Trips.{Hop}
use Rattle.cdx_schema.specs.Roads.{Doc, Refusal, version_missing, denotes, fits_all, hops_from, road}
use Rattle.cdx_bom.specs.declared.doc.RoadError.{RoadError}
use Rattle.cdx_bom.specs.declared.doc.RoadError.TheVariants as error
use Rattle.cdx_bom.specs.Docs.{Refuses, refusal_of}
use Rattle.cdx_request.specs.Requests.{Misread, shape, unbalanced, Sent, Asked, doc_of, asking, request_if}
use Rattle.cdx_request.specs.Replies.{Reply, reply_to_road, reply_to_request}
use Rattle.cdx_tool.specs.declared.answer.Answer.{Answer}
use Rattle.cdx_tool.specs.declared.request.RequestError.TheVariants as misreading
use Rattle.cdx_tool.specs.declared.question.NoBill.{NoBill}
use Rattle.cdx_tool.specs.declared.question.NoBill.TheVariants as lack
use Rattle.cdx_tool.specs.Shows.{reply_of}
use Rattle.cdx_tool.specs.Asks.{WhyNoBill, misread, bill_refused, billed, bill_of, inquiring, bill_sent, IsWhyNoBill, reply_to_no_bill, reply_to_bill}

-- ---- the answer where there is no bill

-- what `answer_no_bill` gives
abbrev pub Answers : NoBill → Result Answer AllocError → Type 0
Answers e r = (owed : Result Tree WhyNoBill) (f : Tree → Data) → IsWhyNoBill owed e → IfOk r (λ a. reply_of a ≡ reply_to_bill f owed)

-- no answer is two
not_both : (r : Result Answer AllocError) (x : Reply) → ((owed : Result Tree WhyNoBill) (f : Tree → Data) → IfOk r (λ a. reply_of a ≡ reply_to_bill f owed)) → IfOk r (λ a. reply_of a ≡ x)
not_both (Err m) x h = tt
not_both (Ok a) x h = absurd (no (ap (λ (y : Reply). y.status) (sym (h (Err (misread shape)) (λ b. null)) ∙ h (Err (misread (unbalanced 0))) (λ b. null))))
  where
    no : ◌≡◌ {A = ℕ} 2 1 → ⊥
    no e = omega (arith, e)

module _ (x : Reply) (owed : Result Tree WhyNoBill) (told : (l : WhyNoBill) → owed ≡ Err l → reply_to_no_bill l ≡ x) where
  told_for : (r : Result Answer AllocError) (e : NoBill) (l : WhyNoBill) → IsWhyNoBill owed e → owed ≡ Err l → Answers e r → IfOk r (λ a. reply_of a ≡ x)
  told_for r e l why is h = subst (λ y. IfOk r (λ a. reply_of a ≡ y)) (ap (reply_to_bill (λ b. null)) is ∙ told l is) (h owed (λ b. null) why)

  pub none_told : (r : Result Answer AllocError) (e : NoBill) → IsWhyNoBill owed e → Answers e r → IfOk r (λ a. reply_of a ≡ x)
  none_told r (lack.Misread (misreading.Memory m)) why h = not_both r x (λ o f. h o f tt)
  none_told r (lack.Misread misreading.Shape) why h = told_for r (lack.Misread misreading.Shape) (misread shape) why why h
  none_told r (lack.Misread (misreading.Unbalanced place)) why h = told_for r (lack.Misread (misreading.Unbalanced place)) (misread (unbalanced place)) why why h
  none_told r (lack.Refused (error.Memory m)) why h = not_both r x (λ o f. h o f tt)
  none_told r (lack.Refused (error.Json f)) why h = told_for r (lack.Refused (error.Json f)) (bill_refused why.0) why why.2 h
  none_told r (lack.Refused (error.Xml f)) why h = told_for r (lack.Refused (error.Xml f)) (bill_refused why.0) why why.2 h
  none_told r (lack.Refused (error.Bom f)) why h = told_for r (lack.Refused (error.Bom f)) (bill_refused why.0) why why.2 h

-- ---- a document without a bill

abbrev pub asked_for : SpecVersion → List Hop → Option Sent → Option Asked
asked_for from hops sent = option_map (λ s. record { from = from; sent = s; hops = hops }) sent

module _ (from : SpecVersion) (hops : List Hop) where
  -- the reply tells why
  pub lack_told : (sent : Option Sent) (l : WhyNoBill) → bill_sent sent from ≡ Err l → reply_to_no_bill l ≡ reply_to_request (request_if (asked_for from hops sent))
  lack_told None l e = ap reply_to_no_bill (let same : l ≡ misread shape = cc in same)
  lack_told (Some s) l e = by (doc_of s) e
    where
      refused : (x : Doc) (d : Result Tree Refusal) → denotes x from ≡ d → billed d ≡ Err l → reply_to_no_bill l ≡ reply_to_road (road x from hops)
      refused x (Ok b) is e = absurd cc
      refused x (Err r) is e = rw is (ap reply_to_no_bill (let same : l ≡ bill_refused r = cc in same))

      by : (d : Result Doc Misread) → bill_of (inquiring from d) ≡ Err l → reply_to_no_bill l ≡ reply_to_request (asking from hops d)
      by (Ok x) e = refused x (denotes x from) refl e
      by (Err m) e = ap reply_to_no_bill (let same : l ≡ misread m = cc in same)

  -- and where there is a bill, the reply is that to the road of a document that denotes it
  pub bill_told : (sent : Option Sent) (b : Tree) → bill_sent sent from ≡ Ok b → (x : Doc) × (denotes x from ≡ Ok b) × (reply_to_road (road x from hops) ≡ reply_to_request (request_if (asked_for from hops sent)))
  bill_told None b e = absurd cc
  bill_told (Some s) b e = by (doc_of s) e
    where
      is_bill : (d : Result Tree Refusal) → billed d ≡ Ok b → d ≡ Ok b
      is_bill (Ok c) e = ap Ok (let same : c ≡ b = cc in same)
      is_bill (Err r) e = absurd cc

      by : (d : Result Doc Misread) → bill_of (inquiring from d) ≡ Ok b → (x : Doc) × (denotes x from ≡ Ok b) × (reply_to_road (road x from hops) ≡ reply_to_request (asking from hops d))
      by (Ok x) e = (x, is_bill (denotes x from) e, refl)
      by (Err m) e = absurd cc

-- the same of one that has a fault
pub fault_why : (d : Result Tree Refusal) (e : RoadError) → Refuses d e → IsWhyNoBill (billed d) (lack.Refused e)
fault_why d (error.Memory m) h = tt
fault_why d (error.Json f) h = (h.0, h.1, ap billed h.2)
fault_why d (error.Xml f) h = (h.0, h.1, ap billed h.2)
fault_why d (error.Bom f) h = (h.0, h.1, ap billed h.2)

-- ---- a bill without a road

pub refused_why : (owed : Result Tree WhyNoBill) (e : RoadError) (r : Refusal) → refusal_of e ≡ Some r → owed ≡ Err (bill_refused r) → IsWhyNoBill owed (lack.Refused e)
refused_why owed (error.Memory m) r is why = tt
refused_why owed (error.Json f) r is why = (r, is, why)
refused_why owed (error.Xml f) r is why = (r, is, why)
refused_why owed (error.Bom f) r is why = (r, is, why)

-- why there is no road, as why there is no bill
abbrev pub why_road : Tree → Result (List Doc) Refusal → Result Tree WhyNoBill
why_road b (Ok docs) = Ok b
why_road b (Err r) = Err (bill_refused r)

pub road_lacks : (b : Tree) (q : Result (List Doc) Refusal) (e : RoadError) → Refuses q e → IsWhyNoBill (why_road b q) (lack.Refused e)
road_lacks b q (error.Memory m) h = tt
road_lacks b q (error.Json f) h = (h.0, h.1, ap (why_road b) h.2)
road_lacks b q (error.Xml f) h = (h.0, h.1, ap (why_road b) h.2)
road_lacks b q (error.Bom f) h = (h.0, h.1, ap (why_road b) h.2)

road_told : (b : Tree) (q : Result (List Doc) Refusal) (l : WhyNoBill) → why_road b q ≡ Err l → reply_to_no_bill l ≡ reply_to_road q
road_told b (Ok docs) l e = absurd cc
road_told b (Err r) l e = ap reply_to_no_bill (let same : l ≡ bill_refused r = cc in same)

pub road_answered : (b : Tree) (q : Result (List Doc) Refusal) (r : Result Answer AllocError) (e : RoadError) → IsWhyNoBill (why_road b q) (lack.Refused e) → Answers (lack.Refused e) r → IfOk r (λ a. reply_of a ≡ reply_to_road q)
road_answered b q r e why h = none_told (reply_to_road q) (why_road b q) (road_told b q) r (lack.Refused e) why h

-- the road where every hop's version can hold the bill, and where one can't
pub road_is : (x : Doc) (v : SpecVersion) (hops : List Hop) (b : Tree) → denotes x v ≡ Ok b → fits_all hops b ≡ true → road x v hops ≡ hops_from x v hops
road_is x v hops b is fits = rw (is, fits) refl

pub road_missing : (x : Doc) (v : SpecVersion) (hops : List Hop) (b : Tree) → denotes x v ≡ Ok b → fits_all hops b ≡ false → road x v hops ≡ Err version_missing
road_missing x v hops b is fits = rw (is, fits) refl
