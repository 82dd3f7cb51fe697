-- The replies to questions about one bill and about two: their statuses, and what status 0 says.
use Rattle.std.proofs.Common.{◌≡◌, ℕ, nat_lt, List, [], ◌∷◌, ◌++◌, length, codes, true, false, Bool, ◌&&◌, cond, Option, Some, None, Result, Ok, Err, IfOk, inl, inr, refl, sym, ap, ◌∙◌, subst}
use Rattle.std.specs.Io.KnownBytes.{Appends, IsAtEnd}
use Rattle.std.proofs.lemmas.Bool.{false≢true}
use Rattle.std.specs.declared.alloc.AllocError.{AllocError}
use Rattle.serde_json.specs.Data.{Data, string, Members}
use Rattle.serde_json.specs.Written.{has_float}
use Rattle.cdx_models.specs.Trees.{Tree}
use Rattle.cdx_models.specs.EqualLaws.{equal-Decides}
use Rattle.cdx_request.specs.Refusals.{refused as refusal}
use Rattle.cdx_request.specs.Requests.{Misread, not_json, shape, unbalanced, document_in_json}
use Rattle.cdx_request.specs.Replies.{Reply, reply, line_of, reply_to_misread, limit}
use Rattle.cdx_tool.specs.Owed.{reply_by, IsSettled}
use Rattle.cdx_tool.specs.Run.{Tells, Ends}
use Rattle.cdx_tool.specs.Shows.{reply_of}
use Rattle.cdx_tool.specs.declared.answer.Answer.{Answer}
use Rattle.cdx_tool.specs.Asks.{Inquiry, inquiry_of, WhyNoBill, misread, bill_refused, bill_of, bill_in, AsksFor}
use Rattle.cdx_tool.proofs.Statuses.{not_zero, bill_served, short_served, whole_reply}
use Rattle.cdx_canon.specs.Canon.{plain, canon}
use Rattle.cdx_canon.specs.Answers.{canonical_answer, is_equal, equality_answer, refused_on, Pair, pair_of, reply_on, reply_beside, reply_to_bills, is_shaped, reply_to_sides, reply_to_pair, reply_if_value, owed, AsksForBoth, TellsEqual}
use Rattle.cdx_canon.specs.Plain.{with_part}
use Rattle.cdx_canon.specs.Sides.{IsSide}
use Rattle.cdx_canon.specs.declared.comparing.Side.{Side}
use Rattle.cdx_canon.specs.declared.comparing.Side.TheVariants as variant
use Rattle.cdx_canon.specs.declared.words.Command.{Command}
use Rattle.cdx_canon.specs.declared.words.Command.TheVariants.{Text, Equal}

-- what is replied to two bills
abbrev pub told : Tree → Tree → Reply
told b c = reply 0 (equality_answer (is_equal b c))

-- ---- each reply has status 0, 1 or 2

on_settled : (side : List ℕ) (next : Tree → Reply) (r : Result Tree WhyNoBill) → ((b : Tree) → IsSettled (next b).status) → IsSettled (reply_on side next r).status
on_settled side next (Ok b) h = h b
on_settled side next (Err (bill_refused r)) h = inr (inl refl)
on_settled side next (Err (misread not_json)) h = inr (inr refl)
on_settled side next (Err (misread shape)) h = inr (inr refl)
on_settled side next (Err (misread (unbalanced place))) h = inr (inl refl)

if_settled : (shaped : Bool) (left right : Result Tree WhyNoBill) → IsSettled (cond shaped (reply_to_bills left right) (reply_to_misread shape)).status
if_settled true left right = on_settled (codes "left") (reply_beside right) left (λ b. on_settled (codes "right") (told b) right (λ c. inl refl))
if_settled false left right = inr (inr refl)

pub pair_settled : (p : Option Pair) → IsSettled (reply_to_pair p).status
pair_settled None = inr (inr refl)
pair_settled (Some p) = if_settled (is_shaped (inquiry_of p.left) && is_shaped (inquiry_of p.right)) (bill_of (inquiry_of p.left)) (bill_of (inquiry_of p.right))

-- ---- status 0

-- the reply to one side goes on from its bill
goes_on : (side : List ℕ) (next : Tree → Reply) (r : Result Tree WhyNoBill) → (reply_on side next r).status ≡ 0 → (b : Tree) × (r ≡ Ok b) × (reply_on side next r ≡ next b)
goes_on side next (Ok b) h = (b, refl, refl)
goes_on side next (Err (bill_refused r)) h = absurd (not_zero 0 h)
goes_on side next (Err (misread not_json)) h = absurd (not_zero 1 h)
goes_on side next (Err (misread shape)) h = absurd (not_zero 1 h)
goes_on side next (Err (misread (unbalanced place))) h = absurd (not_zero 0 h)

bills_told : (left right : Result Tree WhyNoBill) → (reply_to_bills left right).status ≡ 0 → (b : Tree) × (c : Tree) × (left ≡ Ok b) × (right ≡ Ok c) × (reply_to_bills left right ≡ told b c)
bills_told left right h =
    let l = goes_on (codes "left") (reply_beside right) left h in
    let r = goes_on (codes "right") (told l.0) right (ap (λ (x : Reply). x.status) (sym l.2) ∙ h) in
    (l.0, r.0, l.1, r.1, l.2 ∙ r.2)

sides_told : (shaped : Bool) (left right : Result Tree WhyNoBill) → (cond shaped (reply_to_bills left right) (reply_to_misread shape)).status ≡ 0
    → (b : Tree) × (c : Tree) × (left ≡ Ok b) × (right ≡ Ok c) × (cond shaped (reply_to_bills left right) (reply_to_misread shape) ≡ told b c)
sides_told true left right h = bills_told left right h
sides_told false left right h = absurd (not_zero 1 h)

pair_told : (o : Option Pair) → (reply_to_pair o).status ≡ 0 → (p : Pair) × (b : Tree) × (c : Tree) × (o ≡ Some p) × (bill_in p.left ≡ Ok b) × (bill_in p.right ≡ Ok c) × (reply_to_pair o ≡ told b c)
pair_told None h = absurd (not_zero 1 h)
pair_told (Some p) h =
    let t = sides_told (is_shaped (inquiry_of p.left) && is_shaped (inquiry_of p.right)) (bill_of (inquiry_of p.left)) (bill_of (inquiry_of p.right)) h in
    (p, t.0, t.1, refl, t.2, t.3, t.4)

text_value : (o : Option Data) → (reply_if_value Text o).status ≡ 0 → (d : Data) × (b : Tree) × (o ≡ Some d) × (bill_in d ≡ Ok b) × ((reply_if_value Text o).text ≡ line_of (canonical_answer b))
text_value None h = absurd (not_zero 1 h)
text_value (Some d) h = let t = bill_served canonical_answer (bill_in d) h in (d, t.0, refl, t.1, t.2)

equal_value : (o : Option Data) → (reply_if_value Equal o).status ≡ 0
    → (d : Data) × (p : Pair) × (b : Tree) × (c : Tree) × (o ≡ Some d) × (pair_of d ≡ Some p) × (bill_in p.left ≡ Ok b) × (bill_in p.right ≡ Ok c) × (reply_if_value Equal o ≡ told b c)
equal_value None h = absurd (not_zero 1 h)
equal_value (Some d) h = let t = pair_told (pair_of d) h in (d, t.0, t.1, t.2, refl, t.3, t.4, t.5, t.6)

-- the line tells whether the plain bills are equal
tells_equal : (before now : Option (List ℕ)) (b c : Tree) (is : Bool) → is_equal b c ≡ is → Appends before now (line_of (equality_answer is)) → TellsEqual before now b c
tells_equal before now b c true is put = inl ((equal-Decides (plain b) (plain c)).0 is, put)
tells_equal before now b c false is put = inr ((λ e. false≢true (sym is ∙ (equal-Decides (plain b) (plain c)).1 e)), put)

-- ---- how a run of status 0 ends

-- a command's run of status 0: what is owed to the bytes went out
served : (c : Command) (words : Option Command) (bytes : List ℕ) (status : ℕ) (before now : Option (List ℕ)) (flushed : Option ℕ) → words ≡ Some c → Ends (reply_by owed words bytes) status before now flushed → status ≡ 0
    → ((owed c bytes).status ≡ 0) × Appends before now (owed c bytes).text
served c words bytes status before now flushed is ends zero_is =
    let w = whole_reply (reply_by owed (Some c) bytes) status before now flushed (subst (λ (o : Option Command). Ends (reply_by owed o bytes) status before now flushed) is ends) zero_is in
    let same = short_served (owed c bytes) (nat_lt limit (length bytes)) w.0 in
    (subst (λ (r : Reply). r.status ≡ 0) same w.0, subst (λ (r : Reply). Appends before now r.text) same w.1)

pub text_served : (o left before now : Option (List ℕ)) (words : Option Command) (bytes : List ℕ) (status : ℕ) (flushed : Option ℕ) → words ≡ Some Text → status ≡ 0 → Tells o bytes → IsAtEnd left
    → Ends (reply_by owed words bytes) status before now flushed
    → (bytes : List ℕ) × (b : Tree) × Tells o bytes × IsAtEnd left × AsksFor bytes b × Appends before now (canon b ++ 10 ∷ [])
text_served o left before now words bytes status flushed is zero_is tells end ends =
    let s = served Text words bytes status before now flushed is ends zero_is in
    let t = text_value (document_in_json bytes) s.0 in
    (bytes, t.1, tells, end, (t.0, t.2, t.3), subst (Appends before now) t.4 s.1)

pub equal_served : (o left before now : Option (List ℕ)) (words : Option Command) (bytes : List ℕ) (status : ℕ) (flushed : Option ℕ) → words ≡ Some Equal → status ≡ 0 → Tells o bytes → IsAtEnd left
    → Ends (reply_by owed words bytes) status before now flushed
    → (bytes : List ℕ) × (b : Tree) × (c : Tree) × Tells o bytes × IsAtEnd left × AsksForBoth bytes b c × TellsEqual before now b c
equal_served o left before now words bytes status flushed is zero_is tells end ends =
    let s = served Equal words bytes status before now flushed is ends zero_is in
    let t = equal_value (document_in_json bytes) s.0 in
    (bytes, t.2, t.3, tells, end, (t.0, t.1, t.4, t.5, t.6, t.7), tells_equal before now t.2 t.3 (is_equal t.2 t.3) refl (subst (Appends before now) (ap (λ (x : Reply). x.text) t.8) s.1))

-- ---- the two sides

pub sides_shaped : (l r : Result Inquiry Misread) (left right : Side) → IsSide l left → IsSide r right → reply_to_bills (bill_of l) (bill_of r) ≡ reply_to_sides l r
sides_shaped l r left right is_left is_right = rw (is_shaped_side l left is_left, is_shaped_side r right is_right) refl
  where
    is_shaped_side : (owed : Result Inquiry Misread) (s : Side) → IsSide owed s → is_shaped owed ≡ true
    is_shaped_side owed (variant.Question q) is = ap is_shaped is.1
    is_shaped_side owed (variant.Unbalanced place) is = ap is_shaped is

pub shapeless_left : (l r : Result Inquiry Misread) → l ≡ Err shape → reply_to_misread shape ≡ reply_to_sides l r
shapeless_left l r is = rw is refl

pub shapeless_right : (l r : Result Inquiry Misread) → r ≡ Err shape → reply_to_misread shape ≡ reply_to_sides l r
shapeless_right l r is = rw is (unshaped (is_shaped l) _)
  where
    unshaped : (b : Bool) (x : Reply) → reply_to_misread shape ≡ cond (b && false) x (reply_to_misread shape)
    unshaped true x = refl
    unshaped false x = refl

-- ---- answers

-- an answer whose text is that of a value without floats
pub answered : (r : Result Answer AllocError) (status : ℕ) (x y : Data) → IfOk r (λ a. has_float x ≡ false → reply_of a ≡ reply status x) → x ≡ y → has_float y ≡ false → IfOk r (λ a. reply_of a ≡ reply status y)
answered (Ok a) status x y h e clear = h (ap has_float e ∙ clear) ∙ ap (reply status) e
answered (Err m) status x y h e clear = tt

pub answered_so : (r : Result Answer AllocError) (x y : Reply) → IfOk r (λ a. reply_of a ≡ x) → x ≡ y → IfOk r (λ a. reply_of a ≡ y)
answered_so (Ok a) x y h e = h ∙ e
answered_so (Err m) x y h e = tt

-- a refusal becomes that of a side
pub sided : (s : List ℕ) (ms : Members) → with_part (codes "side") (string s) (refusal ms) ≡ refused_on s ms
sided s ms = refl

pub sided_clear : (s : List ℕ) (ms : Members) → has_float (refusal ms) ≡ false → has_float (refused_on s ms) ≡ false
sided_clear s ms clear = clear
