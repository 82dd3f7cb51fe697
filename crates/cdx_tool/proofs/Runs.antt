-- How a run ends.
use Rattle.std.proofs.Common.{◌≡◌, ℕ, ◌≤◌, List, length, codes, Bool, true, false, cond, nat_lt, Option, Some, None, Result, Ok, Err, ◌⊎◌, inl, inr, refl, sym, ap, subst, ◌∙◌, arith}
use Rattle.std.specs.Io.KnownBytes.{Appends, IsAtEnd}
use Rattle.serde_json.specs.Data.{Data, depth}
use Rattle.cdx_schema.specs.Roads.{Doc, Refusal, road}
use Rattle.cdx_request.specs.Requests.{Misread, Request, request_in}
use Rattle.cdx_request.specs.Replies.{Reply, reply, no_request, line_of, documents_value, reply_to, reply_to_request, reply_to_road, limit}
use Rattle.cdx_request.specs.Made.{count_value, made_reply}
use Rattle.cdx_request.specs.Served.{Serves, IsValid, IsMade, ReplyLaw, ValidLaw, AnswersNest, MadeLaw}
use Rattle.cdx_tool.specs.Words.{Command, a_road, a_make, is_road_or_not}
use Rattle.cdx_tool.specs.Run.{Tells, Ends, reply_if}
use Rattle.cdx_tool.specs.Owed.{IsSettled}
use Rattle.cdx_tool.proofs.Settling.{some_told, keeps_itself}
use Rattle.cdx_tool.proofs.Statuses.{misread_settled}

pub ends_early : (o w : Option (List ℕ)) (c : Option Command) (flushed : Option ℕ) (status : ℕ) → (status ≡ 3) ⊎ (status ≡ 5) → (bytes : List ℕ) × Tells o bytes × Ends (reply_if c bytes) status w w flushed
ends_early o w c flushed status h = let t = some_told o in (t.0, t.1, inr (inr (h, keeps_itself w)))

pub make_owed : (o : Option (List ℕ)) (c : Option Command) (n : ℕ) (r : Reply) → Some (a_make n) ≡ c → r ≡ made_reply n → (bytes : List ℕ) × Tells o bytes × (r ≡ reply_if c bytes)
make_owed o c n r is h = let t = some_told o in (t.0, t.1, h ∙ ap (λ c. reply_if c t.0) is)

pub words_owed : (o : Option (List ℕ)) (c : Option Command) (r : Reply) → None ≡ c → r ≡ reply 2 (no_request (codes "words")) → (bytes : List ℕ) × Tells o bytes × (r ≡ reply_if c bytes)
words_owed o c r is h = let t = some_told o in (t.0, t.1, h ∙ ap (λ c. reply_if c t.0) is)

-- ---- the statuses of replies

abbrev IsOwed : ℕ → Type 0
IsOwed status = (status ≡ 6) ⊎ IsSettled status

documents_owed : (r : Result (List Doc) Refusal) → IsSettled (reply_to_road r).status
documents_owed (Ok docs) = inl refl
documents_owed (Err r) = inr (inl refl)

request_owed : (r : Result Request Misread) → IsSettled (reply_to_request r).status
request_owed (Ok q) = documents_owed (road q.doc q.from q.hops)
request_owed (Err e) = misread_settled e

unless_long : (long : Bool) (r : Reply) → IsSettled r.status → IsOwed (cond long (reply 6 (no_request (codes "too long"))) r).status
unless_long true r s = inl refl
unless_long false r s = inr s

status_owed : (c : Option Command) (bytes : List ℕ) → IsOwed (reply_if c bytes).status
status_owed None bytes = inr (inr (inr refl))
status_owed (Some a_road) bytes = unless_long (nat_lt limit (length bytes)) (reply_to_request (request_in bytes)) (request_owed (request_in bytes))
status_owed (Some (a_make n)) bytes = inr (inl refl)

apart : (status : ℕ) → IsOwed status → (status ≡ 3) ⊎ (status ≡ 5) → ⊥
apart status (inl p) (inl q) = omega (arith, p, q)
apart status (inl p) (inr q) = omega (arith, p, q)
apart status (inr (inl p)) (inl q) = omega (arith, p, q)
apart status (inr (inl p)) (inr q) = omega (arith, p, q)
apart status (inr (inr (inl p))) (inl q) = omega (arith, p, q)
apart status (inr (inr (inl p))) (inr q) = omega (arith, p, q)
apart status (inr (inr (inr p))) (inl q) = omega (arith, p, q)
apart status (inr (inr (inr p))) (inr q) = omega (arith, p, q)

-- None has that of a source's fault, or of want of memory.
pub never_failed : (c : Option Command) (r : Reply) (bytes : List ℕ) → r ≡ reply_if c bytes → (r.status ≡ 3) ⊎ (r.status ≡ 5) → ⊥
never_failed c r bytes is = apart r.status (subst (λ (x : Reply). IsOwed x.status) (sym is) (status_owed c bytes))

-- ---- status 0

no_six : ◌≡◌ {A = ℕ} 6 0 → ⊥
no_six h = omega (arith, h)

-- the one command that reads the source
the_road : (c : Option Command) → is_road_or_not c ≡ true → c ≡ Some a_road
the_road None h = cc
the_road (Some a_road) h = refl
the_road (Some (a_make n)) h = cc

road_reply : (c : Option Command) (r : Reply) (bytes : List ℕ) → is_road_or_not c ≡ true → r ≡ reply_if c bytes → r ≡ reply_to bytes
road_reply c r bytes road e = e ∙ ap (λ c. reply_if c bytes) (the_road c road)

-- a reply of status 0 that went out serves one request
pub served : (o left before now : Option (List ℕ)) (c : Option Command) (r : Reply) (bytes : List ℕ) → ReplyLaw → Tells o bytes → r ≡ reply_if c bytes → (is_road_or_not c ≡ true → (r.status ≡ 6) ⊎ IsAtEnd left) → is_road_or_not c ≡ true → r.status ≡ 0 → Appends before now r.text
    → (bytes : List ℕ) × (docs : List Doc) × Tells o bytes × IsAtEnd left × Serves bytes docs × Appends before now (line_of (documents_value docs))
served o left before now c r bytes law told e end road zero_is put =
    let is = road_reply c r bytes road e in
    let l = law bytes (ap (λ (x : Reply). x.status) (sym is) ∙ zero_is) in
    (bytes, l.0, told, elim (end road) [ inl six ↦ absurd (no_six (sym six ∙ zero_is)) | inr at_end ↦ at_end ], l.1, subst (Appends before now) (ap (λ (x : Reply). x.text) is ∙ l.2) put)

pub shallow : (before now : Option (List ℕ)) (c : Option Command) (r : Reply) (bytes : List ℕ) → ReplyLaw → AnswersNest → r ≡ reply_if c bytes → is_road_or_not c ≡ true → r.status ≡ 0 → Appends before now r.text
    → (d : Data) × Appends before now (line_of d) × (depth d ≤ 107)
shallow before now c r bytes law nest e road zero_is put =
    let is = road_reply c r bytes road e in
    let l = law bytes (ap (λ (x : Reply). x.status) (sym is) ∙ zero_is) in
    (documents_value l.0, subst (Appends before now) (ap (λ (x : Reply). x.text) is ∙ l.2) put, nest l.1.request.doc l.1.request.from l.1.request.hops l.0 l.1.led)

-- a reply to `make` that went out counts the made documents
pub counted : (before now : Option (List ℕ)) (c : Option Command) (n : ℕ) (r : Reply) (bytes : List ℕ) → MadeLaw → r ≡ reply_if c bytes → c ≡ Some (a_make n) → Appends before now r.text → IsMade n × Appends before now (line_of (count_value n))
counted before now c n r bytes law e is put = (law n, subst (Appends before now) (ap (λ (x : Reply). x.text) (e ∙ ap (λ c. reply_if c bytes) is)) put)

-- a valid request is owed status 0
pub valid_owed : (o : Option (List ℕ)) (told bytes : List ℕ) (c : Option Command) (r : Reply) (request : Request) → ValidLaw → Tells o told → r ≡ reply_if c told → is_road_or_not c ≡ true → o ≡ Some bytes
    → length bytes ≤ limit → request_in bytes ≡ Ok request → IsValid request → r.status ≡ 0
valid_owed o told bytes c r request law tells e road said le asks valid =
    let same : told ≡ bytes = subst (λ (o : Option (List ℕ)). Tells o told) said tells in
    ap (λ (x : Reply). x.status) (road_reply c r told road e ∙ ap reply_to same) ∙ law bytes request le asks valid
