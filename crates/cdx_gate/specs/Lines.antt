-- The lines of a stream, and the replies to them.
use Rattle.std.specs.Prelude.{◌≡◌, ℕ, List, [], ◌∷◌, ◌++◌, ◌==◌, flat_map, Bool, true, false, if◌then◌else◌}
use Rattle.std.specs.List.{list_all}
use Rattle.cdx_request.specs.Replies.{reply_to}

abbrev pub line_feed : ℕ
line_feed = 10

-- a byte before the first piece
abbrev pub onto_first : ℕ → List (List ℕ) → List (List ℕ)
onto_first b [] = (b ∷ []) ∷ []
onto_first b (l ∷ ls) = (b ∷ l) ∷ ls

-- The pieces before, between and after the line feeds, without them.
abbrev pub pieces : List ℕ → List (List ℕ)
pieces [] = [] ∷ []
pieces (b ∷ bs) = if b == line_feed then [] ∷ pieces bs else onto_first b (pieces bs)

abbrev pub before_last : List (List ℕ) → List (List ℕ)
before_last [] = []
before_last (l ∷ []) = []
before_last (l ∷ (m ∷ ls)) = l ∷ before_last (m ∷ ls)

abbrev pub last_line : List (List ℕ) → List ℕ
last_line [] = []
last_line (l ∷ []) = l
last_line (l ∷ (m ∷ ls)) = last_line (m ∷ ls)

-- all pieces but the last: the lines that a line feed ends
abbrev pub ended_lines : List ℕ → List (List ℕ)
ended_lines bytes = before_last (pieces bytes)

-- the last piece: the bytes after the last line feed
abbrev pub unended : List ℕ → List ℕ
unended bytes = last_line (pieces bytes)

-- the pieces without the last where that is empty
abbrev pub without_empty_end : List (List ℕ) → List (List ℕ)
without_empty_end [] = []
without_empty_end ([] ∷ []) = []
without_empty_end ((b ∷ l) ∷ []) = (b ∷ l) ∷ []
without_empty_end (l ∷ (m ∷ ls)) = l ∷ without_empty_end (m ∷ ls)

-- The lines of bytes. Where the bytes are empty or end with a line feed, there is none after it.
abbrev pub lines : List ℕ → List (List ℕ)
lines bytes = without_empty_end (pieces bytes)

-- ---- replies

-- the text that a line gets: what its bytes get as a request
unfoldable pub line_reply : List ℕ → List ℕ
line_reply line = (reply_to line).text

abbrev pub replies : List (List ℕ) → List ℕ
replies ls = flat_map line_reply ls

-- ---- what makes them the lines

-- the pieces with a line feed between each two
abbrev pub joined : List (List ℕ) → List ℕ
joined [] = []
joined (l ∷ []) = l
joined (l ∷ (m ∷ ls)) = l ++ line_feed ∷ joined (m ∷ ls)

abbrev pub has_no_feed : List ℕ → Bool
has_no_feed [] = true
has_no_feed (b ∷ bs) = if b == line_feed then false else has_no_feed bs

-- The pieces are the bytes less the line feeds between them, and the only pieces without a line feed that are.
abbrev pub ArePieces : Type 0
ArePieces = (bytes : List ℕ)
    → (joined (pieces bytes) ≡ bytes)
    × (list_all has_no_feed (pieces bytes) ≡ true)
    × ((l : List ℕ) (ls : List (List ℕ)) → list_all has_no_feed (l ∷ ls) ≡ true → joined (l ∷ ls) ≡ bytes → pieces bytes ≡ l ∷ ls)

-- After a line feed the lines are those of what follows it.
abbrev pub GoesOnBehind : Type 0
GoesOnBehind = (front back : List ℕ) → lines (front ++ line_feed ∷ back) ≡ lines (front ++ line_feed ∷ []) ++ lines back
