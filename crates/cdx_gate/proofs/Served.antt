-- What stands while lines are answered, and how it stops.
use Rattle.std.proofs.Common.{◌≡◌, ℕ, ◌+◌, ◌-◌, min, ◌≤◌, ◌<◌, List, [], ◌∷◌, ◌++◌, length, take, drop, get_or, suc, codes, Option, Result, Ok, Err, OnOk, true, ◌⊎◌, inl, inr, refl, sym, ap, subst, ◌∙◌, arith, append-nil, append_assoc, length-append}
use Rattle.std.specs.Prelude.{is_ok, if◌then◌else◌}
use Rattle.std.specs.Io.KnownBytes.{Appends}
use Rattle.std.proofs.KnownBytes.{Appends-trans}
use Rattle.std.proofs.lemmas.Bool.{cases_lt, lt-ltb}
use Rattle.std.proofs.lemmas.List.{take_all, take-append-le, take-take, take_min, take_rest, length-take-le}
use Rattle.std.proofs.lemmas.List.Concat.{flat_map-append}
use Rattle.std.proofs.Math.Seq.{take-append_seam, take-append-add}
use Rattle.cdx_request.specs.Replies as request
use Rattle.cdx_request.specs.Replies.{Reply, reply_to, limit, no_request}
use Rattle.cdx_gate.specs.Lines.{line_feed, has_no_feed, ended_lines, unended, without_empty_end, lines, line_reply, replies}
use Rattle.cdx_gate.specs.Gate.{most_held, IsFlushed, PutsFront, PutsFirst, HasServed, AnsweringStops}
use Rattle.cdx_gate.proofs.LineLaws.{ended_on, ended_same, unended_same, ended_fed, unended_fed, lines_whole, at_feed}

-- ---- what is kept of a line

-- what all that are longer than the limit have in common, the first of their bytes have too
same_first : {X : Type 0} (f : List ℕ → X) (z : X) (most k : ℕ) → most < k → ((l : List ℕ) → most < length l → f l ≡ z) → (l : List ℕ) → f (take k l) ≡ f l
same_first f z most k lt h l = elim (cases_lt k (length l)) [
  | inl longer ↦ h (take k l) (omega (arith, length-take-le k l (omega arith))) ∙ sym (h l (omega arith))
  | inr fits ↦ ap f (take_all k l fits)
]

too_long : List ℕ
too_long = (request.reply 6 (no_request (codes "too long"))).text

long_is : (l : List ℕ) → limit < length l → request.reply 6 (no_request (codes "too long")) ≡ reply_to l
long_is l h = rw (lt-ltb limit (length l) h) refl

is_too_long : (l : List ℕ) → limit < length l → line_reply l ≡ too_long
unfolding too_long line_reply
is_too_long l h = ap (λ (r : Reply). r.text) (sym (long_is l h))

-- what is kept of a line gets the line's reply
reply_kept : (l : List ℕ) → line_reply (take most_held l) ≡ line_reply l
reply_kept l = same_first line_reply too_long limit most_held (omega arith) is_too_long l

take_twice : (k : ℕ) (r p : List ℕ) → take k (take k r ++ p) ≡ take k (r ++ p)
take_twice k r p = elim (cases_lt k (length r)) [
  | inl longer ↦
      let n : length (take k r) ≡ k = length-take-le k r (omega arith) in
      take-append-le k (take k r) p (omega arith) ∙ (take-take k k r (omega arith) ∙ sym (take-append-le k r p (omega arith)))
  | inr fits ↦ ap (λ x. take k (x ++ p)) (take_all k r fits)
]

-- what is held after more bytes
pub held_first : (k : ℕ) (xs ys : List ℕ) → length xs ≤ k → xs ++ take (min (length ys) (k - length xs)) ys ≡ take k (xs ++ ys)
held_first k xs ys le =
    let n : ℕ = k - length xs in
    let same : min (length ys) n ≡ min n (length ys) = omega arith in
    let whole : length xs + n ≡ k = omega arith in
    ap (λ m. xs ++ take m ys) same ∙ (ap (λ z. xs ++ z) (take_min n ys) ∙ (sym (take-append-add xs ys n) ∙ ap (λ m. take m (xs ++ ys)) whole))

-- ---- what stands

-- after bytes without a line feed
pub stands_on : (taken p held : List ℕ) (a b : Option (List ℕ)) → has_no_feed p ≡ true → HasServed taken a b held → HasServed (taken ++ p) a b (take most_held (held ++ p))
stands_on taken p held a b clean s = (
  subst (λ ls. Appends a b (replies ls)) (sym (ended_same taken p clean)) s.0,
  ap (λ h. take most_held (h ++ p)) s.1 ∙ (take_twice most_held (unended taken) p ∙ ap (take most_held) (sym (unended_same taken p clean))),
)

-- the replies to the lines and to one more
one_more : (ls : List (List ℕ)) (l : List ℕ) → replies (ls ++ l ∷ []) ≡ replies ls ++ line_reply l
one_more ls l = flat_map-append line_reply ls (l ∷ []) ∙ ap (λ z. replies ls ++ z) (append-nil (line_reply l))

-- after a line feed whose line was answered
pub stands_fed : (taken held : List ℕ) (a b c : Option (List ℕ)) → HasServed taken a b held → Appends b c (line_reply held) → HasServed (taken ++ line_feed ∷ []) a c []
stands_fed taken held a b c s p =
    let answered : Appends b c (line_reply (unended taken)) = subst (Appends b c) (ap line_reply s.1 ∙ reply_kept (unended taken)) p in
    let text : replies (ended_lines (taken ++ line_feed ∷ [])) ≡ replies (ended_lines taken) ++ line_reply (unended taken) = ap replies (ended_fed taken) ∙ one_more (ended_lines taken) (unended taken) in (
      subst (Appends a c) (sym text) (Appends-trans a b c (replies (ended_lines taken)) (line_reply (unended taken)) s.0 answered),
      sym (ap (take most_held) (unended_fed taken)),
    )

-- ---- how it stops

front_more : (xs ys : List ℕ) (a b : Option (List ℕ)) → PutsFront a b xs → PutsFront a b (xs ++ ys)
front_more xs ys a b f = (f.0, omega (arith, length-append xs ys, f.1), subst (Appends a b) (sym (take-append-le f.0 xs ys f.1)) f.2)

first_more : (ls ms : List (List ℕ)) (a b : Option (List ℕ)) → PutsFirst a b ls → PutsFirst a b (ls ++ ms)
first_more ls ms a b f = (f.0, omega (arith, length-append ls ms, f.1), subst (λ ks. Appends a b (replies ks)) (sym (take-append-le f.0 ls ms f.1)) f.2)

-- the same of more lines
pub stops_more : (ls ms : List (List ℕ)) (status : ℕ) (a b : Option (List ℕ)) → AnsweringStops ls status a b → AnsweringStops (ls ++ ms) status a b
stops_more ls ms status a b s = elim s [
  | inl f ↦ inl (f.0, subst (PutsFront a b) (sym (flat_map-append line_reply ls ms)) (front_more (replies ls) (replies ms) a b f.1))
  | inr f ↦ inr (f.0, first_more ls ms a b f.1)
]

-- all of these lines were answered, and then memory ran out
pub stops_here : (ls : List (List ℕ)) (a b : Option (List ℕ)) → Appends a b (replies ls) → AnsweringStops ls 5 a b
stops_here ls a b p = inr (refl, (length ls, omega arith, subst (λ ks. Appends a b (replies ks)) (sym (take_all (length ls) ls (omega arith))) p))

front_at : (ls : List (List ℕ)) (l : List ℕ) (a b c : Option (List ℕ)) → Appends a b (replies ls) → PutsFront b c (line_reply l) → PutsFront a c (replies (ls ++ l ∷ []))
front_at ls l a b c p f =
    let text = one_more ls l in (
      length (replies ls) + f.0,
      omega (arith, ap length text, length-append (replies ls) (line_reply l), f.1),
      subst (Appends a c) (sym (ap (take (length (replies ls) + f.0)) text ∙ take-append-add (replies ls) (line_reply l) f.0)) (Appends-trans a b c (replies ls) (take f.0 (line_reply l)) p f.2),
    )

-- While one more line was answered: its reply went out in part, or not at all.
pub stops_at : (ls : List (List ℕ)) (l : List ℕ) (status : ℕ) (a b c : Option (List ℕ)) → Appends a b (replies ls) → ((status ≡ 4) × PutsFront b c (line_reply l)) ⊎ ((status ≡ 5) × (c ≡ b)) → AnsweringStops (ls ++ l ∷ []) status a c
stops_at ls l status a b c p s = elim s [
  | inl f ↦ inl (f.0, front_at ls l a b c p f.1)
  | inr f ↦ inr (f.0, (length ls, omega (arith, length-append ls (l ∷ [])), subst (λ ks. Appends a c (replies ks)) (sym (take-append_seam ls (l ∷ []))) (subst (λ w. Appends a w (replies ls)) (sym f.1) p)))
]

-- what a call left where it answered `Ok`
pub on_ok : {X E : Type 0} (n a b t : List ℕ) (r : Result X E) → n ≡ (if is_ok r then a else b) → a ≡ t → OnOk r (n ≡ t)
on_ok n a b t (Ok x) e f = e ∙ f
on_ok n a b t (Err x) e f = tt

-- ---- a turn: a line feed after these bytes

pub turned : (taken p held : List ℕ) (a b c : Option (List ℕ)) → has_no_feed p ≡ true → HasServed taken a b held → Appends b c (line_reply (take most_held (held ++ p))) → HasServed (taken ++ (p ++ line_feed ∷ [])) a c []
turned taken p held a b c clean s put =
    subst (λ t. HasServed t a c []) (append_assoc taken p (line_feed ∷ [])) (stands_fed (taken ++ p) (take most_held (held ++ p)) a b c (stands_on taken p held a b clean s) put)

-- its line was not answered, whatever comes after it
pub turn_stops : (taken p rest held : List ℕ) (status : ℕ) (a b c : Option (List ℕ)) → has_no_feed p ≡ true → HasServed taken a b held
    → ((status ≡ 4) × PutsFront b c (line_reply (take most_held (held ++ p)))) ⊎ ((status ≡ 5) × (c ≡ b)) → AnsweringStops (ended_lines (taken ++ (p ++ line_feed ∷ rest))) status a c
turn_stops taken p rest held status a b c clean s why =
    let t = taken ++ p in
    let on : HasServed t a b (take most_held (held ++ p)) = stands_on taken p held a b clean s in
    let text : line_reply (take most_held (held ++ p)) ≡ line_reply (unended t) = ap line_reply on.1 ∙ reply_kept (unended t) in
    let why_not : ((status ≡ 4) × PutsFront b c (line_reply (unended t))) ⊎ ((status ≡ 5) × (c ≡ b)) = subst (λ x. ((status ≡ 4) × PutsFront b c x) ⊎ ((status ≡ 5) × (c ≡ b))) text why in
    let here : AnsweringStops (ended_lines (t ++ line_feed ∷ [])) status a c = subst (λ ls. AnsweringStops ls status a c) (sym (ended_fed t)) (stops_at (ended_lines t) (unended t) status a b c on.0 why_not) in
    let whole : taken ++ (p ++ line_feed ∷ rest) ≡ (t ++ line_feed ∷ []) ++ rest = sym (append_assoc taken p (line_feed ∷ rest)) ∙ sym (append_assoc t (line_feed ∷ []) rest) in
    subst (λ ls. AnsweringStops ls status a c) (sym (ap ended_lines whole ∙ ended_on (t ++ line_feed ∷ []) rest)) (stops_more (ended_lines (t ++ line_feed ∷ [])) (ended_lines (unended (t ++ line_feed ∷ []) ++ rest)) status a c here)

-- ---- the last line

nothing_first : (k : ℕ) (l : List ℕ) → length (take (suc k) l) ≡ 0 → l ≡ []
nothing_first k [] e = refl
nothing_first k (b ∷ l) e = absurd (omega (arith, e))

something_first : (k : ℕ) (l : List ℕ) → 0 < length (take (suc k) l) → without_empty_end (l ∷ []) ≡ l ∷ []
something_first k [] lt = absurd (omega (arith, lt))
something_first k (b ∷ l) lt = refl

-- where nothing is held all lines were answered
pub last_none : (taken held : List ℕ) (a b : Option (List ℕ)) → length held ≡ 0 → HasServed taken a b held → Appends a b (replies (lines taken))
last_none taken held a b none s =
    let empty : unended taken ≡ [] = nothing_first limit (unended taken) (sym (ap length s.1) ∙ none) in
    subst (λ ls. Appends a b (replies ls)) (sym (lines_whole taken ∙ (ap (λ l. ended_lines taken ++ without_empty_end (l ∷ [])) empty ∙ append-nil (ended_lines taken)))) s.0

last_lines : (taken held : List ℕ) (a b : Option (List ℕ)) → 0 < length held → HasServed taken a b held → lines taken ≡ ended_lines taken ++ unended taken ∷ []
last_lines taken held a b lt s = lines_whole taken ∙ ap (λ ls. ended_lines taken ++ ls) (something_first limit (unended taken) (omega (arith, lt, ap length s.1)))

-- and otherwise one more was
pub last_put : (taken held : List ℕ) (a b c : Option (List ℕ)) → 0 < length held → HasServed taken a b held → Appends b c (line_reply held) → Appends a c (replies (lines taken))
last_put taken held a b c lt s put =
    let line : Appends b c (line_reply (unended taken)) = subst (Appends b c) (ap line_reply s.1 ∙ reply_kept (unended taken)) put in
    subst (Appends a c) (sym (ap replies (last_lines taken held a b lt s) ∙ one_more (ended_lines taken) (unended taken))) (Appends-trans a b c (replies (ended_lines taken)) (line_reply (unended taken)) s.0 line)

pub last_stops : (taken held : List ℕ) (status : ℕ) (a b c : Option (List ℕ)) → 0 < length held → HasServed taken a b held → ((status ≡ 4) × PutsFront b c (line_reply held)) ⊎ ((status ≡ 5) × (c ≡ b)) → AnsweringStops (lines taken) status a c
last_stops taken held status a b c lt s why =
    let text : line_reply held ≡ line_reply (unended taken) = ap line_reply s.1 ∙ reply_kept (unended taken) in
    subst (λ ls. AnsweringStops ls status a c) (sym (last_lines taken held a b lt s))
    (stops_at (ended_lines taken) (unended taken) status a b c s.0 (subst (λ x. ((status ≡ 4) × PutsFront b c x) ⊎ ((status ≡ 5) × (c ≡ b))) text why))

-- why a text was not put: by what a sink tells
pub weaker : {K : Type 0} (written : K → Option (List ℕ)) (status : ℕ) (old new : K) (text : List ℕ) (Cause : Type 0) → ((status ≡ 4) × PutsFront (written old) (written new) text × Cause) ⊎ ((status ≡ 5) × (new ≡ old))
    → ((status ≡ 4) × PutsFront (written old) (written new) text) ⊎ ((status ≡ 5) × (written new ≡ written old))
weaker written status old new text Cause why = elim why [ inl f ↦ inl (f.0, f.1) | inr same ↦ inr (same.0, ap written same.1) ]

-- ---- in the midst of bytes

stands_to : (s t held kept_now : List ℕ) (a b : Option (List ℕ)) → s ≡ t → kept_now ≡ held → HasServed s a b held → HasServed t a b kept_now
stands_to s t held kept_now a b e f h = subst (λ x. HasServed x a b kept_now) e (subst (λ x. HasServed s a b x) (sym f) h)

whole_bytes : (taken bytes done rest : List ℕ) → bytes ≡ done ++ rest → taken ++ bytes ≡ (taken ++ done) ++ rest
whole_bytes taken bytes done rest e = ap (λ x. taken ++ x) e ∙ sym (append_assoc taken done rest)

-- what is left after a line feed
pub rest_after : (bytes done rest : List ℕ) (at : ℕ) → bytes ≡ done ++ rest → at < length rest → get_or rest at 0 ≡ line_feed
    → bytes ≡ (done ++ (take at rest ++ line_feed ∷ [])) ++ take (length rest - (at + 1)) (drop (at + 1) rest)
rest_after bytes done rest at e lt is =
    let back = drop (at + 1) rest in
    let fed : rest ≡ (take at rest ++ line_feed ∷ []) ++ back = at_feed rest at lt is ∙ sym (append_assoc (take at rest) (line_feed ∷ []) back) in
    e ∙ (ap (λ x. done ++ x) fed ∙ (sym (append_assoc done (take at rest ++ line_feed ∷ []) back) ∙ ap (λ x. (done ++ (take at rest ++ line_feed ∷ [])) ++ x) (sym (take_rest rest (at + 1)))))

pub turned_on : (taken done p held held_now : List ℕ) (a b c : Option (List ℕ)) → has_no_feed p ≡ true → held_now ≡ [] → HasServed (taken ++ done) a b held → Appends b c (line_reply (take most_held (held ++ p)))
    → HasServed (taken ++ (done ++ (p ++ line_feed ∷ []))) a c held_now
turned_on taken done p held held_now a b c clean none s put =
    stands_to ((taken ++ done) ++ (p ++ line_feed ∷ [])) (taken ++ (done ++ (p ++ line_feed ∷ []))) [] held_now a c (append_assoc taken done (p ++ line_feed ∷ [])) none (turned (taken ++ done) p held a b c clean s put)

pub stops_among : (taken bytes done rest held : List ℕ) (at status : ℕ) (a b c : Option (List ℕ)) → bytes ≡ done ++ rest → at < length rest → get_or rest at 0 ≡ line_feed → has_no_feed (take at rest) ≡ true → HasServed (taken ++ done) a b held
    → ((status ≡ 4) × PutsFront b c (line_reply (take most_held (held ++ take at rest)))) ⊎ ((status ≡ 5) × (c ≡ b)) → AnsweringStops (ended_lines (taken ++ bytes)) status a c
stops_among taken bytes done rest held at status a b c e lt is clean s why =
    let whole : taken ++ bytes ≡ (taken ++ done) ++ (take at rest ++ line_feed ∷ drop (at + 1) rest) = whole_bytes taken bytes done rest e ∙ ap (λ x. (taken ++ done) ++ x) (at_feed rest at lt is) in
    subst (λ x. AnsweringStops (ended_lines x) status a c) (sym whole) (turn_stops (taken ++ done) (take at rest) (drop (at + 1) rest) held status a b c clean s why)

-- no line feed is left
pub stands_all : (taken bytes done rest held held_now : List ℕ) (a b : Option (List ℕ)) → bytes ≡ done ++ rest → has_no_feed rest ≡ true → HasServed (taken ++ done) a b held → held_now ≡ take most_held (held ++ rest) → HasServed (taken ++ bytes) a b held_now
stands_all taken bytes done rest held held_now a b e clean s f =
    stands_to ((taken ++ done) ++ rest) (taken ++ bytes) (take most_held (held ++ rest)) held_now a b (sym (whole_bytes taken bytes done rest e)) f (stands_on (taken ++ done) rest held a b clean s)

pub stops_all : (taken bytes done rest held : List ℕ) (a b : Option (List ℕ)) → bytes ≡ done ++ rest → has_no_feed rest ≡ true → HasServed (taken ++ done) a b held → AnsweringStops (ended_lines (taken ++ bytes)) 5 a b
stops_all taken bytes done rest held a b e clean s =
    stops_here (ended_lines (taken ++ bytes)) a b (stands_all taken bytes done rest held (take most_held (held ++ rest)) a b e clean s refl).0

-- A sink that was flushed stays so where it isn't touched.
pub flushed_on : {K : Type 0} (written : K → Option (List ℕ)) (flushed : K → Option ℕ) (first old new : K) → (old ≡ first) ⊎ IsFlushed (written old) (flushed old) → (new ≡ old) ⊎ IsFlushed (written new) (flushed new)
    → (new ≡ first) ⊎ IsFlushed (written new) (flushed new)
flushed_on written flushed first old new before now = elim now [
  | inr f ↦ inr f
  | inl same ↦ elim before [ inl untouched ↦ inl (same ∙ untouched) | inr f ↦ inr (subst (λ k. IsFlushed (written k) (flushed k)) (sym same) f) ]
]
