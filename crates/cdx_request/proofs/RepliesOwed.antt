-- The reply to bytes, and the request that they are.
use Rattle.std.proofs.Common.{◌≡◌, ℕ, List, length, codes, Bool, true, false, cond, ltb, Result, Ok, Err, refl, sym, ap, subst, ◌∙◌}
use Rattle.std.proofs.lemmas.Bool.{le-ltb}
use Rattle.cdx_schema.specs.Laws.{LeadsFrom}
use Rattle.cdx_schema.specs.Roads.{Doc, Refusal, denotes, fits_all, hops_from, road}
use Rattle.cdx_schema.proofs.Stated.{leads}
use Rattle.cdx_request.specs.Requests.{Misread, not_json, shape, unbalanced, Request, request_in}
use Rattle.cdx_request.specs.Replies.{Reply, reply, no_request, line_of, documents_value, reply_to_request, reply_to_road, limit}
use Rattle.cdx_request.specs.Served.{Serves, ReplyLaw, ValidLaw}
use Rattle.cdx_request.proofs.AnswerFloats.{bound, same_ok}

-- a road that isn't refused starts at a bill that fits every hop
serves : (bytes : List ℕ) (r : Request) (docs : List Doc) → request_in bytes ≡ Ok r → road r.doc r.from r.hops ≡ Ok docs → Serves bytes docs
serves bytes r docs asks is =
    let b = bound (denotes r.doc r.from) _ docs is in
    let fit : fits_all r.hops b.0 ≡ true = fitted (fits_all r.hops b.0) (hops_from r.doc r.from r.hops) _ docs b.2 in
    let l = leads b.0 r.doc r.from r.hops b.1 fit in
    record { request = r; the_bill = b.0; asks = asks; denoted = b.1; led = is; leads = subst (LeadsFrom b.0 r.hops) (same_ok l.0 docs (sym l.1 ∙ is)) l.2 }
  where
    fitted : {A F : Type 0} (b : Bool) (r : Result A F) (e : F) (y : A) → cond b r (Err e) ≡ Ok y → b ≡ true
    fitted true r e y h = refl
    fitted false r e y h = cc

of_road : (o : Result (List Doc) Refusal) → (reply_to_road o).status ≡ 0 → (docs : List Doc) × (o ≡ Ok docs) × ((reply_to_road o).text ≡ line_of (documents_value docs))
of_road (Err e) h = cc
of_road (Ok docs) h = (docs, refl, refl)

-- what a reply of status 0 answers
abbrev IsOwed : Result Request Misread → List ℕ → Type 0
IsOwed o text = (r : Request) × (docs : List Doc) × (o ≡ Ok r) × (road r.doc r.from r.hops ≡ Ok docs) × (text ≡ line_of (documents_value docs))

of_request : (o : Result Request Misread) → (reply_to_request o).status ≡ 0 → IsOwed o (reply_to_request o).text
of_request (Err not_json) h = cc
of_request (Err shape) h = cc
of_request (Err (unbalanced place)) h = cc
of_request (Ok r) h = let p = of_road (road r.doc r.from r.hops) h in (r, p.0, refl, p.1, p.2)

of_bytes : (b : Bool) (long x : Reply) → long.status ≡ 6 → (cond b long x).status ≡ 0 → cond b long x ≡ x
of_bytes true long x six h = cc
of_bytes false long x six h = refl

pub reply_law : ReplyLaw
reply_law bytes h =
    let e = of_bytes (ltb limit (length bytes)) (reply 6 (no_request (codes "too long"))) (reply_to_request (request_in bytes)) refl h in
    let p = of_request (request_in bytes) (ap (λ (x : Reply). x.status) (sym e) ∙ h) in
    (p.1, serves bytes p.0 p.1 p.2 p.3, ap (λ (x : Reply). x.text) e ∙ p.4)

pub valid_law : ValidLaw
valid_law bytes r le h v =
    let l = leads v.the_bill r.doc r.from r.hops v.denoted v.fit in
    rw (le-ltb limit (length bytes) le, h, l.1) refl
