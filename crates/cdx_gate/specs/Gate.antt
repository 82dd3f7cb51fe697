-- What a stream is answered by, and what of it went out.
use Rattle.std.specs.Prelude.{◌≡◌, ◌≤◌, ◌⊎◌, ℕ, List, [], ◌∷◌, length, take, codes, nat_lt, if◌then◌else◌, Option, IfSome, String}
use Rattle.std.specs.declared.alloc.Global.{Global}
use Rattle.std.specs.Io.KnownBytes.{Appends, Consumes}
use Rattle.cdx_request.specs.Replies as request
use Rattle.cdx_request.specs.Replies.{Reply, no_request}
use Rattle.cdx_gate.specs.Lines.{lines, ended_lines, unended, replies}

-- how many bytes of a line are held at most: one more than a request may have, which tells that the line is too long
abbrev pub most_held : ℕ
most_held = 67108865

-- The lines that are answered of all bytes: each, or where there are more bytes than the limit those that a line feed
-- ends within it.
abbrev pub answered : ℕ → List ℕ → List (List ℕ)
answered limit bytes = if nat_lt limit (length bytes) then ended_lines (take limit bytes) else lines bytes

-- the answer to words, of which a gateway has none
abbrev pub no_words : Reply
no_words = request.reply 2 (no_request (codes "words"))

-- the status and the text that are owed where nothing fails
abbrev pub owed_to_lines : List (String Global) → ℕ → List ℕ → Reply
owed_to_lines [] limit bytes = record { status = if nat_lt limit (length bytes) then 6 else 0; text = replies (answered limit bytes) }
owed_to_lines (word ∷ words) limit bytes = no_words

-- the lines whose replies are owed
abbrev pub owed_lines : List (String Global) → ℕ → List ℕ → List (List ℕ)
owed_lines [] limit bytes = answered limit bytes
owed_lines (word ∷ words) limit bytes = []

-- all that was written is flushed, where that is told
abbrev pub IsFlushed : Option (List ℕ) → Option ℕ → Type 0
IsFlushed written flushed = IfSome flushed (λ n. IfSome written (λ bytes. n ≡ length bytes))

-- a front of this text went out
abbrev pub PutsFront : Option (List ℕ) → Option (List ℕ) → List ℕ → Type 0
PutsFront before now text = (n : ℕ) × (n ≤ length text) × Appends before now (take n text)

-- the replies of the first of these lines went out, each whole
abbrev pub PutsFirst : Option (List ℕ) → Option (List ℕ) → List (List ℕ) → Type 0
PutsFirst before now ls = (n : ℕ) × (n ≤ length ls) × Appends before now (replies (take n ls))

-- The replies of the lines that a line feed ends in what was taken went out, and no more was taken than the limit.
abbrev pub PutsTaken : ℕ → Option (List ℕ) → Option (List ℕ) → Option (List ℕ) → Option (List ℕ) → Type 0
PutsTaken limit left rest before now = (taken : List ℕ) × Consumes left rest taken × (length taken ≤ limit) × Appends before now (replies (ended_lines taken))

-- The bytes so far: the replies of the lines that a line feed ends in them went out, and of the line after the last of
-- them at most so much is held.
abbrev pub HasServed : List ℕ → Option (List ℕ) → Option (List ℕ) → List ℕ → Type 0
HasServed taken before now held = Appends before now (replies (ended_lines taken)) × (held ≡ take most_held (unended taken))

-- How answering these lines stops: by a sink's fault in the midst of a reply, or for want of memory between two.
abbrev pub AnsweringStops : List (List ℕ) → ℕ → Option (List ℕ) → Option (List ℕ) → Type 0
AnsweringStops ls status before now = ((status ≡ 4) × PutsFront before now (replies ls)) ⊎ ((status ≡ 5) × PutsFirst before now ls)

-- How serving a source ends that had these bytes left. Each status but 5 has a cause, which `serve` names.
abbrev pub ServingEnds : List (String Global) → ℕ → List ℕ → ℕ → Option (List ℕ) → Option (List ℕ) → Type 0
ServingEnds words limit bytes status before now =
    -- all that is owed went out
    ((status ≡ (owed_to_lines words limit bytes).status) × Appends before now (owed_to_lines words limit bytes).text)
    -- a source's fault, of which `serve` tells what went out
    ⊎ (status ≡ 3)
    -- a sink's fault: a front of it went out
    ⊎ ((status ≡ 4) × PutsFront before now (owed_to_lines words limit bytes).text)
    -- want of memory: the replies of some of the first lines went out, each whole
    ⊎ ((status ≡ 5) × PutsFirst before now (owed_lines words limit bytes))
