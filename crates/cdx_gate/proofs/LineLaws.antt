-- The pieces between line feeds: how they go on, and that they are the bytes less the line feeds between them.
use Rattle.std.proofs.lemmas.Bool.{eqb-true}
use Rattle.std.specs.List.{list_all, AllWithin, HoldsAt}
use Rattle.std.proofs.Common.{◌≡◌, ◌+◌, ◌<◌, ◌≤◌, true≢false, Option, None, Some, MatchOption, subst, arith, refl, ℕ, List, [], ◌∷◌, ◌++◌, length, take, drop, get_or, suc, zero, add-one, drop-cons, take-append-drop}
use Rattle.std.specs.Prelude.{◌==◌, ◌&&◌, Bool, true, false, if◌then◌else◌}
use Rattle.std.proofs.lemmas.List.{append-nil, take_all}
use mathlib.Core.Path.{ap, sym, ◌∙◌}
use Rattle.cdx_gate.specs.Lines.{line_feed, onto_first, pieces, before_last, last_line, ended_lines, unended, without_empty_end, lines, joined, has_no_feed, ArePieces, GoesOnBehind}

and_true : (a b : Bool) → (a && b) ≡ true → (a ≡ true) × (b ≡ true)
and_true true b h = (refl, h)
and_true false b h = absurd (true≢false (sym h))

both : (a b : Bool) → a ≡ true → b ≡ true → (a && b) ≡ true
both true b h k = k
both false b h k = h

-- there is a first piece
abbrev HasFirst : List (List ℕ) → Type 0
HasFirst ls = (l : List ℕ) × (ms : List (List ℕ)) × (ls ≡ l ∷ ms)

piece_there : (c : Bool) (b : ℕ) (ls : List (List ℕ)) → HasFirst ls → HasFirst (if c then [] ∷ ls else onto_first b ls)
piece_there true b ls h = ([], ls, refl)
piece_there false b ls h = (b ∷ h.0, h.1, ap (onto_first b) h.2)

pieces_there : (bs : List ℕ) → HasFirst (pieces bs)
pieces_there [] = ([], [], refl)
pieces_there (b ∷ bs) = piece_there (b == line_feed) b (pieces bs) (pieces_there bs)

onto_front : (b : ℕ) (ls ms : List (List ℕ)) → HasFirst ls → onto_first b (ls ++ ms) ≡ onto_first b ls ++ ms
onto_front b ls ms h = ap (λ x. onto_first b (x ++ ms)) h.2 ∙ sym (ap (λ x. onto_first b x ++ ms) h.2)

piece_split : (c : Bool) (b : ℕ) (ls ms ps : List (List ℕ)) → HasFirst ls → ps ≡ ls ++ ms → (if c then [] ∷ ps else onto_first b ps) ≡ (if c then [] ∷ ls else onto_first b ls) ++ ms
piece_split true b ls ms ps h e = ap (λ x. [] ∷ x) e
piece_split false b ls ms ps h e = ap (onto_first b) e ∙ onto_front b ls ms h

pieces_split : (front back : List ℕ) → pieces (front ++ line_feed ∷ back) ≡ pieces front ++ pieces back
pieces_split [] back = refl
pieces_split (b ∷ front) back = piece_split (b == line_feed) b (pieces front) (pieces back) (pieces (front ++ line_feed ∷ back)) (pieces_there front) (pieces_split front back)

end_kept : (l m : List ℕ) (ls : List (List ℕ)) → without_empty_end (l ∷ (m ∷ ls)) ≡ l ∷ without_empty_end (m ∷ ls)
end_kept [] m ls = refl
end_kept (b ∷ l) m ls = refl

end_behind : (ls : List (List ℕ)) (m : List ℕ) (ms : List (List ℕ)) → without_empty_end (ls ++ m ∷ ms) ≡ ls ++ without_empty_end (m ∷ ms)
end_behind [] m ms = refl
end_behind (l ∷ []) m ms = end_kept l m ms
end_behind (l ∷ (k ∷ ls)) m ms = end_kept l k (ls ++ m ∷ ms) ∙ ap (λ x. l ∷ x) (end_behind (k ∷ ls) m ms)

end_of : (ls ms : List (List ℕ)) → HasFirst ms → without_empty_end (ls ++ ms) ≡ ls ++ without_empty_end ms
end_of ls ms h = ap (λ x. without_empty_end (ls ++ x)) h.2 ∙ (end_behind ls h.0 h.1 ∙ sym (ap (λ x. ls ++ without_empty_end x) h.2))

lines_behind : (front back : List ℕ) → lines (front ++ line_feed ∷ back) ≡ pieces front ++ lines back
lines_behind front back = ap without_empty_end (pieces_split front back) ∙ end_of (pieces front) (pieces back) (pieces_there back)

pub goes_on : GoesOnBehind
goes_on front back = lines_behind front back ∙ sym (ap (λ x. x ++ lines back) (lines_behind front [] ∙ append-nil (pieces front)))

-- ---- the pieces

joined_onto : (b : ℕ) (ls : List (List ℕ)) → HasFirst ls → joined (onto_first b ls) ≡ b ∷ joined ls
joined_onto b [] h = cc
joined_onto b (l ∷ []) h = refl
joined_onto b (l ∷ (m ∷ ls)) h = refl

joined_new : (ls : List (List ℕ)) → HasFirst ls → joined ([] ∷ ls) ≡ line_feed ∷ joined ls
joined_new [] h = cc
joined_new (l ∷ ls) h = refl

piece_joined : (c : Bool) (b : ℕ) (ls : List (List ℕ)) (bs : List ℕ) → (b == line_feed) ≡ c → HasFirst ls → joined ls ≡ bs → joined (if c then [] ∷ ls else onto_first b ls) ≡ b ∷ bs
piece_joined true b ls bs e h f = joined_new ls h ∙ (ap (λ x. line_feed ∷ x) f ∙ ap (λ x. x ∷ bs) (sym (eqb-true b line_feed e)))
piece_joined false b ls bs e h f = joined_onto b ls h ∙ ap (λ x. b ∷ x) f

pieces_joined : (bs : List ℕ) → joined (pieces bs) ≡ bs
pieces_joined [] = refl
pieces_joined (b ∷ bs) = piece_joined (b == line_feed) b (pieces bs) bs refl (pieces_there bs) (pieces_joined bs)

byte_clean : (c : Bool) (b : ℕ) (l : List ℕ) → (b == line_feed) ≡ c → c ≡ false → has_no_feed (b ∷ l) ≡ has_no_feed l
byte_clean c b l e f = ap (λ x. if x then false else has_no_feed l) (e ∙ f)

clean_onto : (b : ℕ) (ls : List (List ℕ)) → (b == line_feed) ≡ false → list_all has_no_feed ls ≡ true → list_all has_no_feed (onto_first b ls) ≡ true
clean_onto b [] e h = both (has_no_feed (b ∷ [])) true (byte_clean false b [] e refl) refl
clean_onto b (l ∷ ls) e h =
    let p : (has_no_feed l ≡ true) × (list_all has_no_feed ls ≡ true) = and_true (has_no_feed l) (list_all has_no_feed ls) h in
    both (has_no_feed (b ∷ l)) (list_all has_no_feed ls) (byte_clean false b l e refl ∙ p.0) p.1

piece_clean : (c : Bool) (b : ℕ) (ls : List (List ℕ)) → (b == line_feed) ≡ c → list_all has_no_feed ls ≡ true → list_all has_no_feed (if c then [] ∷ ls else onto_first b ls) ≡ true
piece_clean true b ls e h = h
piece_clean false b ls e h = clean_onto b ls e h

pieces_clean : (bs : List ℕ) → list_all has_no_feed (pieces bs) ≡ true
pieces_clean [] = refl
pieces_clean (b ∷ bs) = piece_clean (b == line_feed) b (pieces bs) refl (pieces_clean bs)

piece_alone : (c : Bool) (b : ℕ) (l : List ℕ) (ls : List (List ℕ)) → (if c then false else has_no_feed l) ≡ true → (has_no_feed l ≡ true → ls ≡ l ∷ []) → (if c then [] ∷ ls else onto_first b ls) ≡ (b ∷ l) ∷ []
piece_alone true b l ls h f = absurd (true≢false (sym h))
piece_alone false b l ls h f = ap (onto_first b) (f h)

alone : (l : List ℕ) → has_no_feed l ≡ true → pieces l ≡ l ∷ []
alone [] h = refl
alone (b ∷ l) h = piece_alone (b == line_feed) b l (pieces l) h (alone l)

pieces_back : (l : List ℕ) (ls : List (List ℕ)) → list_all has_no_feed (l ∷ ls) ≡ true → pieces (joined (l ∷ ls)) ≡ l ∷ ls
pieces_back l [] h = alone l (and_true (has_no_feed l) true h).0
pieces_back l (m ∷ ls) h =
    let p : (has_no_feed l ≡ true) × (list_all has_no_feed (m ∷ ls) ≡ true) = and_true (has_no_feed l) (list_all has_no_feed (m ∷ ls)) h in
    pieces_split l (joined (m ∷ ls)) ∙ (ap (λ x. x ++ pieces (joined (m ∷ ls))) (alone l p.0) ∙ ap (λ x. l ∷ x) (pieces_back m ls p.1))

pub are_pieces : ArePieces
are_pieces bytes = (pieces_joined bytes, pieces_clean bytes, λ l ls h e. sym (ap pieces e) ∙ pieces_back l ls h)

-- ---- how the pieces go on

before_behind : (ls : List (List ℕ)) (m : List ℕ) (ms : List (List ℕ)) → before_last (ls ++ m ∷ ms) ≡ ls ++ before_last (m ∷ ms)
before_behind [] m ms = refl
before_behind (l ∷ []) m ms = refl
before_behind (l ∷ (k ∷ ls)) m ms = ap (λ x. l ∷ x) (before_behind (k ∷ ls) m ms)

before_of : (ls ms : List (List ℕ)) → HasFirst ms → before_last (ls ++ ms) ≡ ls ++ before_last ms
before_of ls ms h = ap (λ x. before_last (ls ++ x)) h.2 ∙ (before_behind ls h.0 h.1 ∙ sym (ap (λ x. ls ++ before_last x) h.2))

last_behind : (ls : List (List ℕ)) (m : List ℕ) (ms : List (List ℕ)) → last_line (ls ++ m ∷ ms) ≡ last_line (m ∷ ms)
last_behind [] m ms = refl
last_behind (l ∷ []) m ms = refl
last_behind (l ∷ (k ∷ ls)) m ms = last_behind (k ∷ ls) m ms

last_among : (ls ms : List (List ℕ)) → HasFirst ms → last_line (ls ++ ms) ≡ last_line ms
last_among ls ms h = ap (λ x. last_line (ls ++ x)) h.2 ∙ (last_behind ls h.0 h.1 ∙ sym (ap last_line h.2))

piece_on : (c : Bool) (b : ℕ) (y : List ℕ) (ls ps : List (List ℕ)) → (b == line_feed) ≡ c → HasFirst ls → ps ≡ before_last ls ++ pieces (last_line ls ++ y)
    → (if c then [] ∷ ps else onto_first b ps) ≡ before_last (if c then [] ∷ ls else onto_first b ls) ++ pieces (last_line (if c then [] ∷ ls else onto_first b ls) ++ y)
piece_on c b y [] ps e h p = cc
piece_on true b y (l ∷ []) ps e h p = ap (λ x. [] ∷ x) p
piece_on true b y (l ∷ (m ∷ ls)) ps e h p = ap (λ x. [] ∷ x) p
piece_on false b y (l ∷ []) ps e h p = ap (onto_first b) p ∙ sym (ap (λ x. if x then [] ∷ pieces (l ++ y) else onto_first b (pieces (l ++ y))) e)
piece_on false b y (l ∷ (m ∷ ls)) ps e h p = ap (onto_first b) p

-- the pieces of more bytes: those that were ended, and those of what wasn't, with what comes
pieces_on : (x y : List ℕ) → pieces (x ++ y) ≡ ended_lines x ++ pieces (unended x ++ y)
pieces_on [] y = refl
pieces_on (b ∷ x) y = piece_on (b == line_feed) b y (pieces x) (pieces (x ++ y)) refl (pieces_there x) (pieces_on x y)

pub ended_on : (x y : List ℕ) → ended_lines (x ++ y) ≡ ended_lines x ++ ended_lines (unended x ++ y)
ended_on x y = ap before_last (pieces_on x y) ∙ before_of (ended_lines x) (pieces (unended x ++ y)) (pieces_there (unended x ++ y))

pub unended_on : (x y : List ℕ) → unended (x ++ y) ≡ unended (unended x ++ y)
unended_on x y = ap last_line (pieces_on x y) ∙ last_among (ended_lines x) (pieces (unended x ++ y)) (pieces_there (unended x ++ y))

pub lines_on : (x y : List ℕ) → lines (x ++ y) ≡ ended_lines x ++ lines (unended x ++ y)
lines_on x y = ap without_empty_end (pieces_on x y) ∙ end_of (ended_lines x) (pieces (unended x ++ y)) (pieces_there (unended x ++ y))

-- ---- without a line feed

last_clean : (ls : List (List ℕ)) → list_all has_no_feed ls ≡ true → has_no_feed (last_line ls) ≡ true
last_clean [] h = refl
last_clean (l ∷ []) h = (and_true (has_no_feed l) true h).0
last_clean (l ∷ (m ∷ ls)) h = last_clean (m ∷ ls) (and_true (has_no_feed l) (list_all has_no_feed (m ∷ ls)) h).1

unended_clean : (x : List ℕ) → has_no_feed (unended x) ≡ true
unended_clean x = last_clean (pieces x) (pieces_clean x)

byte_before : (c : Bool) (p q : List ℕ) → (if c then false else has_no_feed p) ≡ true → (has_no_feed p ≡ true → has_no_feed q ≡ true) → (if c then false else has_no_feed q) ≡ true
byte_before true p q h f = absurd (true≢false (sym h))
byte_before false p q h f = f h

clean_both : (p q : List ℕ) → has_no_feed p ≡ true → has_no_feed q ≡ true → has_no_feed (p ++ q) ≡ true
clean_both [] q h k = k
clean_both (b ∷ p) q h k = byte_before (b == line_feed) p (p ++ q) h (λ f. clean_both p q f k)

-- bytes without a line feed go on with the line that wasn't ended
alone_on : (x p : List ℕ) → has_no_feed p ≡ true → pieces (unended x ++ p) ≡ (unended x ++ p) ∷ []
alone_on x p h = alone (unended x ++ p) (clean_both (unended x) p (unended_clean x) h)

pub ended_same : (x p : List ℕ) → has_no_feed p ≡ true → ended_lines (x ++ p) ≡ ended_lines x
ended_same x p h = ended_on x p ∙ (ap (λ z. ended_lines x ++ before_last z) (alone_on x p h) ∙ append-nil (ended_lines x))

pub unended_same : (x p : List ℕ) → has_no_feed p ≡ true → unended (x ++ p) ≡ unended x ++ p
unended_same x p h = unended_on x p ∙ ap last_line (alone_on x p h)

-- a line feed ends it
fed : (x : List ℕ) → pieces (unended x ++ line_feed ∷ []) ≡ unended x ∷ ([] ∷ [])
fed x = pieces_split (unended x) [] ∙ ap (λ z. z ++ [] ∷ []) (alone (unended x) (unended_clean x))

pub ended_fed : (x : List ℕ) → ended_lines (x ++ line_feed ∷ []) ≡ ended_lines x ++ unended x ∷ []
ended_fed x = ended_on x (line_feed ∷ []) ∙ ap (λ z. ended_lines x ++ before_last z) (fed x)

pub unended_fed : (x : List ℕ) → unended (x ++ line_feed ∷ []) ≡ []
unended_fed x = unended_on x (line_feed ∷ []) ∙ ap last_line (fed x)

-- all lines: those that were ended, and the last where it isn't empty
pub lines_whole : (x : List ℕ) → lines x ≡ ended_lines x ++ without_empty_end (unended x ∷ [])
lines_whole x = ap lines (sym (append-nil x)) ∙ (lines_on x [] ∙ ap (λ z. ended_lines x ++ without_empty_end z) (ap pieces (append-nil (unended x)) ∙ alone (unended x) (unended_clean x)))

-- the place of a line feed splits bytes
pub at_feed : (bs : List ℕ) (n : ℕ) → n < length bs → get_or bs n 0 ≡ line_feed → bs ≡ take n bs ++ line_feed ∷ drop (n + 1) bs
at_feed bs n lt is = sym (take-append-drop n bs) ∙ ap (λ z. take n bs ++ z) (rw (add-one, drop-cons bs n 0) (ap (λ b. b ∷ drop (suc n) bs) is))

-- ---- finding one

byte_clean_at : (c : Bool) (b : ℕ) (p : List ℕ) → (b == line_feed) ≡ c → (b ≡ line_feed → ⊥) → has_no_feed p ≡ true → (if c then false else has_no_feed p) ≡ true
byte_clean_at true b p e h f = absurd (h (eqb-true b line_feed e))
byte_clean_at false b p e h f = f

clean_within : (bs : List ℕ) (n : ℕ) → n ≤ length bs → AllWithin (λ b. b ≡ line_feed → ⊥) bs 0 n → has_no_feed (take n bs) ≡ true
clean_within bs zero le h = refl
clean_within [] (suc n) le h = refl
clean_within (b ∷ bs) (suc n) le h =
    byte_clean_at (b == line_feed) b (take n bs) refl (h 0 0 (omega arith) (omega arith)) (clean_within bs n (omega arith) (λ k d low high. h (suc k) d (omega arith) (omega arith)))

pub found_first : (bs : List ℕ) (r : Option ℕ) → MatchOption r (AllWithin (λ b. b ≡ line_feed → ⊥) bs 0 (length bs)) (λ i. (i < length bs) × HoldsAt (λ b. b ≡ line_feed) bs i × AllWithin (λ b. b ≡ line_feed → ⊥) bs 0 i)
    → MatchOption r (has_no_feed bs ≡ true) (λ n. (n < length bs) × (get_or bs n 0 ≡ line_feed) × (has_no_feed (take n bs) ≡ true))
found_first bs None h = subst (λ (p : List ℕ). has_no_feed p ≡ true) (take_all (length bs) bs (omega arith)) (clean_within bs (length bs) (omega arith) h)
found_first bs (Some n) h = (h.0, h.1 0, clean_within bs n (omega (arith, h.0)) h.2)
