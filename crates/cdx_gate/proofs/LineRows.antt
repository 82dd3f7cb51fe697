-- Worked rows on the lines of a stream.
use Prim.Native.String.{String}
use Rattle.std.specs.Prelude.{◌≡◌, refl, ℕ, List, [], ◌∷◌, ◌++◌, codes}
use Rattle.cdx_gate.specs.Lines.{lines, ended_lines, pieces, joined}

-- texts with a line feed between each two
abbrev of_text : List String → List ℕ
of_text [] = []
of_text (s ∷ []) = codes s
of_text (s ∷ (t ∷ ss)) = codes s ++ 10 ∷ of_text (t ∷ ss)

empty : lines (of_text ("" ∷ [])) ≡ []
empty = refl

empty_ended : ended_lines (of_text ("" ∷ [])) ≡ []
empty_ended = refl

empty_joined : joined (pieces (of_text ("" ∷ []))) ≡ (of_text ("" ∷ []))
empty_joined = refl

a_feed : lines (of_text ("" ∷ "" ∷ [])) ≡ ([] ∷ [])
a_feed = refl

a_feed_ended : ended_lines (of_text ("" ∷ "" ∷ [])) ≡ ([] ∷ [])
a_feed_ended = refl

a_feed_joined : joined (pieces (of_text ("" ∷ "" ∷ []))) ≡ (of_text ("" ∷ "" ∷ []))
a_feed_joined = refl

two_feeds : lines (of_text ("" ∷ "" ∷ "" ∷ [])) ≡ ([] ∷ [] ∷ [])
two_feeds = refl

two_feeds_ended : ended_lines (of_text ("" ∷ "" ∷ "" ∷ [])) ≡ ([] ∷ [] ∷ [])
two_feeds_ended = refl

two_feeds_joined : joined (pieces (of_text ("" ∷ "" ∷ "" ∷ []))) ≡ (of_text ("" ∷ "" ∷ "" ∷ []))
two_feeds_joined = refl

no_feed : lines (of_text ("ab" ∷ [])) ≡ ((codes "ab") ∷ [])
no_feed = refl

no_feed_ended : ended_lines (of_text ("ab" ∷ [])) ≡ []
no_feed_ended = refl

no_feed_joined : joined (pieces (of_text ("ab" ∷ []))) ≡ (of_text ("ab" ∷ []))
no_feed_joined = refl

one_line : lines (of_text ("ab" ∷ "" ∷ [])) ≡ ((codes "ab") ∷ [])
one_line = refl

one_line_ended : ended_lines (of_text ("ab" ∷ "" ∷ [])) ≡ ((codes "ab") ∷ [])
one_line_ended = refl

one_line_joined : joined (pieces (of_text ("ab" ∷ "" ∷ []))) ≡ (of_text ("ab" ∷ "" ∷ []))
one_line_joined = refl

two_lines : lines (of_text ("ab" ∷ "c" ∷ "" ∷ [])) ≡ ((codes "ab") ∷ (codes "c") ∷ [])
two_lines = refl

two_lines_ended : ended_lines (of_text ("ab" ∷ "c" ∷ "" ∷ [])) ≡ ((codes "ab") ∷ (codes "c") ∷ [])
two_lines_ended = refl

two_lines_joined : joined (pieces (of_text ("ab" ∷ "c" ∷ "" ∷ []))) ≡ (of_text ("ab" ∷ "c" ∷ "" ∷ []))
two_lines_joined = refl

a_rest : lines (of_text ("ab" ∷ "c" ∷ [])) ≡ ((codes "ab") ∷ (codes "c") ∷ [])
a_rest = refl

a_rest_ended : ended_lines (of_text ("ab" ∷ "c" ∷ [])) ≡ ((codes "ab") ∷ [])
a_rest_ended = refl

a_rest_joined : joined (pieces (of_text ("ab" ∷ "c" ∷ []))) ≡ (of_text ("ab" ∷ "c" ∷ []))
a_rest_joined = refl

an_empty_line : lines (of_text ("a" ∷ "" ∷ "b" ∷ "" ∷ [])) ≡ ((codes "a") ∷ [] ∷ (codes "b") ∷ [])
an_empty_line = refl

an_empty_line_ended : ended_lines (of_text ("a" ∷ "" ∷ "b" ∷ "" ∷ [])) ≡ ((codes "a") ∷ [] ∷ (codes "b") ∷ [])
an_empty_line_ended = refl

an_empty_line_joined : joined (pieces (of_text ("a" ∷ "" ∷ "b" ∷ "" ∷ []))) ≡ (of_text ("a" ∷ "" ∷ "b" ∷ "" ∷ []))
an_empty_line_joined = refl

a_feed_first : lines (of_text ("" ∷ "a" ∷ [])) ≡ ([] ∷ (codes "a") ∷ [])
a_feed_first = refl

a_feed_first_ended : ended_lines (of_text ("" ∷ "a" ∷ [])) ≡ ([] ∷ [])
a_feed_first_ended = refl

a_feed_first_joined : joined (pieces (of_text ("" ∷ "a" ∷ []))) ≡ (of_text ("" ∷ "a" ∷ []))
a_feed_first_joined = refl

a_feed_at_the_end : lines (of_text ("a" ∷ "" ∷ "" ∷ [])) ≡ ((codes "a") ∷ [] ∷ [])
a_feed_at_the_end = refl

a_feed_at_the_end_ended : ended_lines (of_text ("a" ∷ "" ∷ "" ∷ [])) ≡ ((codes "a") ∷ [] ∷ [])
a_feed_at_the_end_ended = refl

a_feed_at_the_end_joined : joined (pieces (of_text ("a" ∷ "" ∷ "" ∷ []))) ≡ (of_text ("a" ∷ "" ∷ "" ∷ []))
a_feed_at_the_end_joined = refl

a_return : lines (of_text ("arb" ∷ "" ∷ [])) ≡ ((codes "arb") ∷ [])
a_return = refl

a_return_ended : ended_lines (of_text ("arb" ∷ "" ∷ [])) ≡ ((codes "arb") ∷ [])
a_return_ended = refl

a_return_joined : joined (pieces (of_text ("arb" ∷ "" ∷ []))) ≡ (of_text ("arb" ∷ "" ∷ []))
a_return_joined = refl

-- other ends of lines are ordinary bytes
a_carriage_return : lines (13 ∷ 10 ∷ 11 ∷ 0 ∷ []) ≡ ((13 ∷ []) ∷ (11 ∷ 0 ∷ []) ∷ [])
a_carriage_return = refl
