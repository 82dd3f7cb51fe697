-- What the status of a reply says, for the programs that answer one request.
use Rattle.std.proofs.Common.{◌≡◌, ℕ, suc, List, codes, Bool, true, false, cond, Option, Result, Ok, Err, IfOk, inl, inr, refl, sym, ◌∙◌, subst, arith}
use Rattle.std.specs.Io.KnownBytes.{Appends}
use Rattle.std.specs.declared.alloc.AllocError.{AllocError}
use Rattle.serde_json.specs.Data.{Data}
use Rattle.cdx_models.specs.Trees.{Tree}
use Rattle.cdx_request.specs.Requests.{Misread, not_json, shape, unbalanced}
use Rattle.cdx_request.specs.Replies.{Reply, reply, line_of, no_request, reply_to_misread}
use Rattle.cdx_tool.specs.declared.answer.Answer.{Answer}
use Rattle.cdx_tool.specs.Shows.{reply_of}
use Rattle.cdx_tool.specs.Owed.{IsSettled}
use Rattle.cdx_tool.specs.Run.{Ends}
use Rattle.cdx_tool.specs.Asks.{WhyNoBill, misread, bill_refused, reply_to_no_bill, reply_to_bill}

-- ---- a reply is settled

pub misread_settled : (e : Misread) → IsSettled (reply_to_misread e).status
misread_settled not_json = inr (inr refl)
misread_settled shape = inr (inr refl)
misread_settled (unbalanced place) = inr (inl refl)

pub bill_settled : (f : Tree → Data) (owed : Result Tree WhyNoBill) → IsSettled (reply_to_bill f owed).status
bill_settled f (Ok b) = inl refl
bill_settled f (Err (misread e)) = misread_settled e
bill_settled f (Err (bill_refused r)) = inr (inl refl)

pub answer_settled : (r : Result Answer AllocError) (x : Reply) → IfOk r (λ a. reply_of a ≡ x) → IsSettled x.status → IfOk r (λ a. IsSettled a.status)
answer_settled (Ok a) x h is = subst (λ (y : Reply). IsSettled y.status) (sym h) is
answer_settled (Err m) x h is = tt

-- ---- status 0

pub not_zero : (n : ℕ) → suc n ≡ 0 → ⊥
not_zero n h = omega (arith, h)

pub misread_unserved : (e : Misread) → (reply_to_misread e).status ≡ 0 → ⊥
misread_unserved not_json h = not_zero 1 h
misread_unserved shape h = not_zero 1 h
misread_unserved (unbalanced place) h = not_zero 0 h

no_bill_unserved : (l : WhyNoBill) → (reply_to_no_bill l).status ≡ 0 → ⊥
no_bill_unserved (misread e) h = misread_unserved e h
no_bill_unserved (bill_refused r) h = not_zero 0 h

-- what a reply of status 0 to one bill tells
pub bill_served : (f : Tree → Data) (r : Result Tree WhyNoBill) → (reply_to_bill f r).status ≡ 0 → (b : Tree) × (r ≡ Ok b) × ((reply_to_bill f r).text ≡ line_of (f b))
bill_served f (Ok b) h = (b, refl, refl)
bill_served f (Err l) h = absurd (no_bill_unserved l h)

-- a reply of status 0 is what is owed to bytes that aren't too many
pub short_served : (owed : Reply) (long : Bool) → (cond long (reply 6 (no_request (codes "too long"))) owed).status ≡ 0 → cond long (reply 6 (no_request (codes "too long"))) owed ≡ owed
short_served owed true h = absurd (not_zero 5 h)
short_served owed false h = refl

-- a run that ends with status 0 wrote its reply whole
pub whole_reply : (r : Reply) (status : ℕ) (before now : Option (List ℕ)) (flushed : Option ℕ) → Ends r status before now flushed → status ≡ 0 → (r.status ≡ 0) × Appends before now r.text
whole_reply r status before now flushed (inl h) zero_is = (sym h.0 ∙ zero_is, h.1)
whole_reply r status before now flushed (inr (inl h)) zero_is = absurd (not_zero 3 (sym h.0 ∙ zero_is))
whole_reply r status before now flushed (inr (inr (inl h, kept))) zero_is = absurd (not_zero 2 (sym h ∙ zero_is))
whole_reply r status before now flushed (inr (inr (inr h, kept))) zero_is = absurd (not_zero 4 (sym h ∙ zero_is))
