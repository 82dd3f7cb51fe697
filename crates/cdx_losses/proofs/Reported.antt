-- What the program of losses owes to the bytes of a request and to words.
use Rattle.std.proofs.Common.{◌≡◌, ℕ, ◌≤◌, List, [], ◌∷◌, length, map, codes, Bool, true, false, cond, ltb, Option, Some, Result, Ok, Err, IfOk, ◌⊎◌, inl, inr, refl, sym, ap, subst, ◌∙◌}
use Rattle.std.specs.Io.KnownBytes.{Appends, IsAtEnd}
use Rattle.std.proofs.lemmas.Bool.{le-ltb}
use Rattle.std.specs.declared.alloc.AllocError.{AllocError}
use Rattle.serde_json.specs.Data.{Data, string, no_members, put}
use Rattle.serde_json.specs.View.{items_of}
use Rattle.serde_json.specs.Written.{has_float, items_have_float}
use Rattle.cdx_models.specs.declared.bom.SpecVersion.{SpecVersion}
use Rattle.cdx_models.specs.Path.{pointer}
use Rattle.cdx_models.specs.Trees.{Tree}
use Rattle.cdx_schema.specs.Results.{◌>>=◌}
use Rattle.cdx_schema.specs.Trips.{Hop}
use Rattle.cdx_schema.specs.Roads.{Refusal, version_missing, denotes, fits_all}
use Rattle.cdx_bom.specs.declared.bom.Bom.{Bom}
use Rattle.cdx_bom.specs.declared.doc.RoadError.{RoadError}
use Rattle.cdx_bom.specs.declared.doc.RoadError.TheVariants as error
use Rattle.cdx_bom.specs.Docs.{Refuses, refusal_of}
use Rattle.cdx_bom.specs.Hops.{DenotesBill}
use Rattle.cdx_request.specs.Requests.{Misread, Request, request_in}
use Rattle.cdx_request.specs.Replies.{Reply, reply, line_of, limit}
use Rattle.cdx_request.specs.Served.{IsValid}
use Rattle.cdx_request.proofs.AnswerFloats.{put_clear}
use Rattle.cdx_tool.specs.Reads.{ReadsOwed, IsRequest}
use Rattle.cdx_tool.specs.declared.answer.Answer.{Answer}
use Rattle.cdx_tool.specs.declared.request.RequestError.{RequestError}
use Rattle.cdx_tool.specs.declared.request.RequestError.TheVariants as misreading
use Rattle.cdx_tool.specs.Shows.{reply_of}
use Rattle.cdx_tool.specs.Owed.{reply_by, IsSettled}
use Rattle.cdx_tool.specs.Run.{Tells, Ends}
use Rattle.cdx_tool.specs.Asks.{WhyNoBill, misread, billed, IsWhyNoBill, reply_to_bill}
use Rattle.cdx_tool.specs.declared.question.NoBill.TheVariants as lack
use Rattle.cdx_tool.proofs.Statuses.{misread_settled, bill_settled, answer_settled, not_zero, misread_unserved, short_served, whole_reply}
use Rattle.cdx_ways.specs.Ways.{At}
use Rattle.cdx_losses.specs.Answers.{reason_word, loss_value, losses_answer}
use Rattle.cdx_losses.specs.Report.{if_fit, carried, answer_to, losses_reply, owed}
use Rattle.cdx_losses.specs.Told.{told, all_told}
use Rattle.cdx_losses.specs.declared.loss.Loss.{Loss}
use Rattle.cdx_losses.specs.declared.loss.Reason.{Reason}
use Rattle.cdx_losses.specs.declared.serving.Command.{Command}
use Rattle.cdx_schema.proofs.Basics.{neither}

-- ---- the answer

-- the values of the losses are those of what they tell
pub values_are : (ls : List Loss) → map (λ l. loss_value (told l)) ls ≡ map loss_value (all_told ls)
values_are [] = refl
values_are (l ∷ ls) = ap (λ ds. loss_value (told l) ∷ ds) (values_are ls)

-- No answer holds a float.
entries_clear : (xs : List (At Reason)) → items_have_float (items_of (map loss_value xs)) ≡ false
entries_clear [] = refl
entries_clear (x ∷ xs) = neither (has_float (loss_value x)) _ (put_clear (codes "path") (string (pointer x.0)) (put (codes "reason") (string (reason_word x.1)) no_members) refl (put_clear (codes "reason") (string (reason_word x.1)) no_members refl refl)) (entries_clear xs)

pub losses_clear : (xs : List (At Reason)) → has_float (losses_answer xs) ≡ false
losses_clear xs = neither _ false (entries_clear xs) refl

-- ---- the bill

pub fitted : (hops : List Hop) (b : Tree) → fits_all hops b ≡ true → if_fit hops b ≡ Ok b
fitted hops b fit = rw fit refl

pub unfitted : (hops : List Hop) (b : Tree) (e : RoadError) → fits_all hops b ≡ false → refusal_of e ≡ Some version_missing → Refuses (if_fit hops b) e
unfitted hops b (error.Memory m) unfit h = tt
unfitted hops b (error.Json f) unfit h = (version_missing, h, rw unfit refl)
unfitted hops b (error.Xml f) unfit h = (version_missing, h, rw unfit refl)
unfitted hops b (error.Bom f) unfit h = (version_missing, h, rw unfit refl)

-- what fits of the bill that is denoted is what is carried
pub carried_on : (hops : List Hop) (denoted : Result Tree Refusal) (b : Tree) (r : Result Bom RoadError) → denoted ≡ Ok b → DenotesBill (if_fit hops b) r → DenotesBill (denoted >>= λ b. if_fit hops b) r
carried_on hops denoted b r is h = subst (λ (d : Result Tree Refusal). DenotesBill (d >>= λ b. if_fit hops b) r) (sym is) h

-- ---- the answers

-- a refusal is why there is no bill
pub lacks : (owed : Result Tree Refusal) (e : RoadError) → Refuses owed e → IsWhyNoBill (billed owed) (lack.Refused e)
lacks owed (error.Memory m) h = tt
lacks owed (error.Json f) h = (h.0, h.1, ap billed h.2)
lacks owed (error.Xml f) h = (h.0, h.1, ap billed h.2)
lacks owed (error.Bom f) h = (h.0, h.1, ap billed h.2)

-- what is carried along these hops is what is asked for
pub same_bill : (q : Request) (v : SpecVersion) (hops : List Hop) → v ≡ q.from → hops ≡ q.hops → reply_to_bill (answer_to hops) (billed (carried q.doc v hops)) ≡ losses_reply (Ok q)
same_bill q v hops i j = ap (λ (u : SpecVersion). reply_to_bill (answer_to hops) (billed (carried q.doc u hops))) i ∙ ap (λ (hs : List Hop). reply_to_bill (answer_to hs) (billed (carried q.doc q.from hs))) j

pub bill_reply : (hops : List Hop) (owed : Result Tree Refusal) (b : Tree) → owed ≡ Ok b → reply 0 (answer_to hops b) ≡ reply_to_bill (answer_to hops) (billed owed)
bill_reply hops owed b is = ap (λ (o : Result Tree Refusal). reply_to_bill (answer_to hops) (billed o)) (sym is)

-- what is asked for, and the hops
abbrev pub asked_for : Result Request Misread → Result Tree WhyNoBill
asked_for (Ok q) = billed (carried q.doc q.from q.hops)
asked_for (Err e) = Err (misread e)

abbrev pub answer_in : Result Request Misread → Tree → Data
answer_in (Ok q) = answer_to q.hops
answer_in (Err e) = answer_to []

pub reply_in : (o : Result Request Misread) → reply_to_bill (answer_in o) (asked_for o) ≡ losses_reply o
reply_in (Ok q) = refl
reply_in (Err e) = refl

pub misreads : (o : Result Request Misread) (e : RequestError) → ReadsOwed IsRequest o (Err e) → IsWhyNoBill (asked_for o) (lack.Misread e)
misreads o misreading.Shape h = ap asked_for h
misreads o (misreading.Unbalanced place) h = ap asked_for h
misreads o (misreading.Memory m) h = tt

-- ---- the reply

request_settled : (r : Result Request Misread) → IsSettled (losses_reply r).status
request_settled (Ok q) = bill_settled (answer_to q.hops) (billed (carried q.doc q.from q.hops))
request_settled (Err e) = misread_settled e

pub settled : (bytes : List ℕ) (r : Result Answer AllocError) → IfOk r (λ a. reply_of a ≡ owed bytes) → IfOk r (λ a. IsSettled a.status)
settled bytes r is = answer_settled r (owed bytes) is (request_settled (request_in bytes))

-- ---- status 0

-- the bill that a served request carries
served_bill : (f : Tree → Data) (r : Result Tree Refusal) → (reply_to_bill f (billed r)).status ≡ 0 → (b : Tree) × (r ≡ Ok b) × ((reply_to_bill f (billed r)).text ≡ line_of (f b))
served_bill f (Ok b) h = (b, refl, refl)
served_bill f (Err r) h = absurd (not_zero 0 h)

-- is denoted, and fits every hop
fits_hops : (hops : List Hop) (denoted : Result Tree Refusal) (b : Tree) → (denoted >>= λ c. if_fit hops c) ≡ Ok b → (denoted ≡ Ok b) × (fits_all hops b ≡ true)
fits_hops hops (Err r) b h = cc
fits_hops hops (Ok c) b h = by (fits_all hops c) refl h
  where
    by : (fit : Bool) → fits_all hops c ≡ fit → cond fit (Ok c) (Err version_missing) ≡ Ok b → ◌≡◌ {A = Result Tree Refusal} (Ok c) (Ok b) × (fits_all hops b ≡ true)
    by true e i = let same : c ≡ b = cc in (i, subst (λ (x : Tree). fits_all hops x ≡ true) same e)
    by false e i = absurd cc

requested : (r : Result Request Misread) → (losses_reply r).status ≡ 0 → (q : Request) × (r ≡ Ok q) × ((v : IsValid q) × ((losses_reply r).text ≡ line_of (answer_to q.hops v.the_bill)))
requested (Ok q) h =
    let c = served_bill (answer_to q.hops) (carried q.doc q.from q.hops) h in
    let f = fits_hops q.hops (denotes q.doc q.from) c.0 c.1 in
    (q, refl, (record { the_bill = c.0; denoted = f.0; fit = f.1 }, c.2))
requested (Err e) h = absurd (misread_unserved e h)

-- ---- how a run of status 0 ends

abbrev reply_by_words : Option Command → List ℕ → Reply
reply_by_words o bytes = reply_by (λ c bs. owed bs) o bytes

pub served : (o left before now : Option (List ℕ)) (words : Option Command) (c : Command) (bytes : List ℕ) (status : ℕ) (flushed : Option ℕ) → words ≡ Some c → status ≡ 0 → Tells o bytes → IsAtEnd left
    → Ends (reply_by (λ c bs. owed bs) words bytes) status before now flushed
    → (bytes : List ℕ) × (request : Request) × Tells o bytes × IsAtEnd left × (request_in bytes ≡ Ok request) × ((valid : IsValid request) × Appends before now (line_of (answer_to request.hops valid.the_bill)))
served o left before now words c bytes status flushed is zero_is tells end ends =
    let w = whole_reply (reply_by_words (Some c) bytes) status before now flushed (subst (λ (o : Option Command). Ends (reply_by_words o bytes) status before now flushed) is ends) zero_is in
    let same = short_served (owed bytes) (ltb limit (length bytes)) w.0 in
    let q = requested (request_in bytes) (subst (λ (r : Reply). r.status ≡ 0) same w.0) in
    (bytes, q.0, tells, end, q.1, (q.2.0, subst (Appends before now) (ap (λ (r : Reply). r.text) same ∙ q.2.1) w.1))

-- a valid request is owed status 0
valid_carried : (q : Request) (v : IsValid q) → carried q.doc q.from q.hops ≡ Ok v.the_bill
valid_carried q v = rw (v.denoted, v.fit) refl

pub valid : (words : Option Command) (c : Command) (bytes : List ℕ) (q : Request) (status : ℕ) → words ≡ Some c → length bytes ≤ limit → request_in bytes ≡ Ok q → IsValid q
    → (status ≡ (reply_by (λ c bs. owed bs) words bytes).status) ⊎ (status ≡ 5) → (status ≡ 0) ⊎ (status ≡ 5)
valid words c bytes q status is le asks v (inl own) = inl (own ∙ rw (is, le-ltb limit (length bytes) le, asks, valid_carried q v) refl)
valid words c bytes q status is le asks v (inr five) = inr five
