-- What is owed to what a source had left.
use Rattle.std.proofs.Common.{◌≡◌, ℕ, ◌+◌, ◌-◌, min, ◌≤◌, ◌<◌, List, [], ◌∷◌, ◌++◌, length, take, drop, Option, String, Some, None, ◌⊎◌, inl, inr, refl, sym, ap, subst, ◌∙◌, arith, append-nil, append_assoc, length-append}
use Rattle.std.specs.declared.alloc.Global.{Global}
use Rattle.std.specs.Io.KnownBytes.{Appends, Consumes, IsAtEnd}
use Rattle.std.proofs.KnownBytes.{Appends-nil, Consumes-trans}
use Rattle.std.proofs.lemmas.Bool.{cases_lt, lt-ltb, le-ltb}
use Rattle.std.proofs.lemmas.List.{take_all, take-append-le, take-take, take-append-drop, length-take-le}
use Rattle.std.proofs.Math.Seq.{take-append-add}
use Rattle.cdx_tool.specs.Run.{Tells}
use Rattle.cdx_gate.specs.Lines.{ended_lines, unended, lines, replies}
use Rattle.cdx_gate.specs.Gate.{answered, no_words, PutsFront, HasServed, AnsweringStops, ServingEnds}
use Rattle.cdx_gate.proofs.LineLaws.{ended_on, lines_on}
use Rattle.cdx_gate.proofs.Served.{stops_more}
use Rattle.cdx_tool.proofs.Settling.{some_told, all_told}

-- So many bytes may still come, and of what was taken this stands.
abbrev pub TakenSoFar : ℕ → ℕ → Option (List ℕ) → Option (List ℕ) → Option (List ℕ) → Option (List ℕ) → List ℕ → Type 0
TakenSoFar limit left o n a b held = (taken : List ℕ) × Consumes o n taken × (length taken + left ≡ limit) × HasServed taken a b held

-- How serving ends, whatever the bytes are that weren't told.
abbrev pub EndsOf : ℕ → Option (List ℕ) → ℕ → Option (List ℕ) → Option (List ℕ) → Type 0
EndsOf limit o status a b = (bytes : List ℕ) × Tells o bytes × ServingEnds [] limit bytes status a b

-- ---- what was told

told_front : (o n : Option (List ℕ)) (taken : List ℕ) → Consumes o n taken → (bytes : List ℕ) × (more : List ℕ) × Tells o bytes × (bytes ≡ taken ++ more)
told_front None n taken h = (taken, [], tt, sym (append-nil taken))
told_front (Some told) None taken h = absurd h
told_front (Some told) (Some rest) taken h = (told, rest, refl, h)

-- ---- which lines are answered

answered_within : (limit : ℕ) (bytes : List ℕ) → length bytes ≤ limit → answered limit bytes ≡ lines bytes
answered_within limit bytes le = rw (le-ltb limit (length bytes) le) refl

answered_beyond : (limit : ℕ) (bytes : List ℕ) → limit < length bytes → answered limit bytes ≡ ended_lines (take limit bytes)
answered_beyond limit bytes lt = rw (lt-ltb limit (length bytes) lt) refl

-- those that were ended before come first
answered_first : (limit : ℕ) (taken more : List ℕ) → length taken ≤ limit → (ms : List (List ℕ)) × (answered limit (taken ++ more) ≡ ended_lines taken ++ ms)
answered_first limit taken more le = elim (cases_lt limit (length (taken ++ more))) [
  | inl beyond ↦
      let n : ℕ = limit - length taken in
      let whole : limit ≡ length taken + n = omega arith in
      (ended_lines (unended taken ++ take n more), answered_beyond limit (taken ++ more) beyond ∙ (ap (λ k. ended_lines (take k (taken ++ more))) whole ∙ (ap ended_lines (take-append-add taken more n) ∙ ended_on taken (take n more))))
  | inr within ↦ (lines (unended taken ++ more), answered_within limit (taken ++ more) within ∙ lines_on taken more)
]

-- ---- how it ends

served_is : (limit : ℕ) (bytes : List ℕ) (a b : Option (List ℕ)) → length bytes ≤ limit → Appends a b (replies (lines bytes)) → ServingEnds [] limit bytes 0 a b
served_is limit bytes a b le put = rw (le-ltb limit (length bytes) le) (inl (refl, put))

too_long_is : (limit : ℕ) (bytes : List ℕ) (a b : Option (List ℕ)) → limit < length bytes → Appends a b (replies (ended_lines (take limit bytes))) → ServingEnds [] limit bytes 6 a b
too_long_is limit bytes a b lt put = rw (lt-ltb limit (length bytes) lt) (inl (refl, put))

stopped_is : (limit : ℕ) (bytes : List ℕ) (status : ℕ) (a b : Option (List ℕ)) → AnsweringStops (answered limit bytes) status a b → ServingEnds [] limit bytes status a b
stopped_is limit bytes status a b s = elim s [ inl f ↦ inr (inr (inl f)) | inr f ↦ inr (inr (inr f)) ]

-- ---- at the source's fault

pub fault_ends : (limit left : ℕ) (o n a b : Option (List ℕ)) (held : List ℕ) → TakenSoFar limit left o n a b held → EndsOf limit o 3 a b
fault_ends limit left o n a b held x = let f = told_front o n x.0 x.1 in (f.0, f.2, inr (inl refl))

-- ---- at the end

took_none : (o n m : Option (List ℕ)) (taken buf : List ℕ) (count : ℕ) → count ≡ 0 → Consumes o n taken → Consumes n m (take count buf) → Consumes o m taken
took_none o n m taken buf count none p q =
    subst (Consumes o m) (append-nil taken) (Consumes-trans o n m taken [] p (subst (λ k. Consumes n m (take k buf)) none q))

pub end_ends : (limit left : ℕ) (o n m a b c : Option (List ℕ)) (held buf : List ℕ) (count status : ℕ) → count ≡ 0 → TakenSoFar limit left o n a b held → Consumes n m (take count buf) → IsAtEnd m
    → ((taken : List ℕ) (first : Option (List ℕ)) → HasServed taken first b held → ((status ≡ 0) × Appends first c (replies (lines taken))) ⊎ AnsweringStops (lines taken) status first c)
    → EndsOf limit o status a c
end_ends limit left o n m a b c held buf count status none x q at_end last =
    let taken = x.0 in
    let all = all_told o m taken (took_none o n m taken buf count none x.1 q) at_end in
    let fits : length taken ≤ limit = omega (arith, x.2) in (
      taken,
      all,
      elim (last taken a x.3) [
        | inl put ↦ subst (λ k. ServingEnds [] limit taken k a c) (sym put.0) (served_is limit taken a c fits put.1)
        | inr s ↦ stopped_is limit taken status a c (subst (λ ls. AnsweringStops ls status a c) (sym (answered_within limit taken fits)) s)
      ],
    )

-- ---- after a take

pub turn_takes : (limit left : ℕ) (o n m a b : Option (List ℕ)) (held buf : List ℕ) (count : ℕ) → count ≤ length buf → count ≤ left + 1 → TakenSoFar limit left o n a b held → Consumes n m (take count buf) → (taken : List ℕ) × Consumes o m taken × (length taken ≤ limit + 1)
turn_takes limit left o n m a b held buf count le few x q =
    (x.0 ++ take count buf, Consumes-trans o n m x.0 (take count buf) x.1 q, omega (arith, length-append x.0 (take count buf), length-take-le count buf le, x.2))

-- the bytes that are answered of those that a call gave
part_of : (buf back : List ℕ) (left count within : ℕ) → within ≡ min left count → count ≤ length buf → take within (buf ++ back) ≡ take within (take count buf)
part_of buf back left count within is le = take-append-le within buf back (omega arith) ∙ sym (take-take within count buf (omega arith))

part_fits : (taken buf : List ℕ) (limit left count within : ℕ) → within ≡ min left count → count ≤ length buf → length taken + left ≡ limit → length (taken ++ take within (take count buf)) ≤ limit
part_fits taken buf limit left count within is le so_far =
    let n : length (take count buf) ≡ count = length-take-le count buf le in
    omega (arith, length-append taken (take within (take count buf)), length-take-le within (take count buf) (omega arith))

pub turn_ends : (limit left : ℕ) (o n m a b c : Option (List ℕ)) (held buf back : List ℕ) (count within status : ℕ) → within ≡ min left count → count ≤ length buf → TakenSoFar limit left o n a b held → Consumes n m (take count buf)
    → ((taken : List ℕ) (first : Option (List ℕ)) → HasServed taken first b held → AnsweringStops (ended_lines (taken ++ take within (buf ++ back))) status first c) → EndsOf limit o status a c
turn_ends limit left o n m a b c held buf back count within status is le x q stops =
    let taken = x.0 in
    let came = take count buf in
    let part = taken ++ take within came in
    let f = told_front o m (taken ++ came) (Consumes-trans o n m taken came x.1 q) in
    let more = drop within came ++ f.1 in
    let same : f.0 ≡ part ++ more = f.3 ∙ (append_assoc taken came f.1 ∙ (ap (λ z. taken ++ (z ++ f.1)) (sym (take-append-drop within came)) ∙ (ap (λ z. taken ++ z) (append_assoc (take within came) (drop within came) f.1) ∙ sym (append_assoc taken (take within came) more)))) in
    let first = answered_first limit part more (part_fits taken buf limit left count within is le x.2) in
    let here : AnsweringStops (ended_lines part) status a c = subst (λ z. AnsweringStops (ended_lines (taken ++ z)) status a c) (part_of buf back left count within is le) (stops taken a x.3) in
    (f.0, f.2, stopped_is limit f.0 status a c (subst (λ ls. AnsweringStops ls status a c) (sym (ap (answered limit) same ∙ first.1)) (stops_more (ended_lines part) first.0 status a c here)))

-- one byte beyond the limit came
pub beyond_ends : (limit left : ℕ) (o n m a b c : Option (List ℕ)) (held held_now buf back : List ℕ) (count within : ℕ) → within ≡ min left count → within < count → count ≤ length buf → TakenSoFar limit left o n a b held → Consumes n m (take count buf)
    → ((taken : List ℕ) (first : Option (List ℕ)) → HasServed taken first b held → HasServed (taken ++ take within (buf ++ back)) first c held_now) → EndsOf limit o 6 a c
beyond_ends limit left o n m a b c held held_now buf back count within is lt le x q stands =
    let taken = x.0 in
    let came = take count buf in
    let f = told_front o m (taken ++ came) (Consumes-trans o n m taken came x.1 q) in
    let long : length came ≡ count = length-take-le count buf le in
    let whole : limit ≡ length taken + within = omega (arith, x.2) in
    let few : limit ≤ length (taken ++ came) = omega (arith, length-append taken came) in
    let front : take limit f.0 ≡ taken ++ take within came = ap (take limit) f.3 ∙ (take-append-le limit (taken ++ came) f.1 few ∙ (ap (λ k. take k (taken ++ came)) whole ∙ take-append-add taken came within)) in
    let beyond : limit < length f.0 = omega (arith, ap length f.3, length-append (taken ++ came) f.1, length-append taken came) in
    let put = (stands taken a x.3).0 in
    (f.0, f.2, too_long_is limit f.0 a c beyond (subst (λ z. Appends a c (replies (ended_lines z))) (sym (front ∙ ap (λ z. taken ++ z) (sym (part_of buf back left count within is le)))) put))

-- all that came was within the limit
pub goes_on : (limit left : ℕ) (o n m a b c : Option (List ℕ)) (held held_now buf back : List ℕ) (count within : ℕ) → within ≡ min left count → count ≤ within → count ≤ length buf → TakenSoFar limit left o n a b held → Consumes n m (take count buf)
    → ((taken : List ℕ) (first : Option (List ℕ)) → HasServed taken first b held → HasServed (taken ++ take within (buf ++ back)) first c held_now) → TakenSoFar limit (left - count) o m a c held_now
goes_on limit left o n m a b c held held_now buf back count within is all le x q stands =
    let taken = x.0 in
    let came = take count buf in
    let long : length came ≡ count = length-take-le count buf le in
    let part : take within (buf ++ back) ≡ came = part_of buf back left count within is le ∙ take_all within came (omega arith) in (
      taken ++ came,
      Consumes-trans o n m taken came x.1 q,
      omega (arith, length-append taken came, x.2),
      subst (λ z. HasServed (taken ++ z) a c held_now) part (stands taken a x.3),
    )

-- ---- words

pub words_end : {K : Type 0} (written : K → Option (List ℕ)) (words : List (String Global)) (limit status : ℕ) (o : Option (List ℕ)) (old new : K) (Flushed Sound Cause : Type 0) → 0 < length words
    → ((status ≡ 2) × Appends (written old) (written new) no_words.text × Flushed × Sound) ⊎ (((status ≡ 4) × PutsFront (written old) (written new) no_words.text × Cause) ⊎ ((status ≡ 5) × (new ≡ old)))
    → (bytes : List ℕ) × Tells o bytes × ServingEnds words limit bytes status (written old) (written new)
words_end written [] limit status o old new Flushed Sound Cause some h = absurd (omega (arith, some))
words_end written (word ∷ words) limit status o old new Flushed Sound Cause some h =
    let t = some_told o in (
      t.0,
      t.1,
      elim h [
        | inl put ↦ inl (put.0, put.1)
        | inr h ↦ elim h [
          | inl front ↦ inr (inr (inl (front.0, front.1)))
          | inr none ↦ inr (inr (inr (none.0, (0, omega arith, subst (λ k. Appends (written old) (written k) []) (sym none.1) (Appends-nil (written old))))))
        ]
      ],
    )
