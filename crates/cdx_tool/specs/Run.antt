-- What `run` answers.
use Rattle.std.specs.Prelude.{◌≡◌, ◌≤◌, ◌⊎◌, ℕ, List, codes, length, take, Option, Some, None, IfSome, ⊤, String}
use Rattle.std.specs.declared.alloc.Global.{Global}
use Rattle.std.specs.Io.KnownBytes.{Appends, Keeps}
use Rattle.cdx_request.specs.Replies.{Reply, reply, no_request, reply_to}
use Rattle.cdx_request.specs.Made.{made_reply}
use Rattle.cdx_tool.specs.Words.{Command, a_road, a_make, command_of}

abbrev pub reply_if : Option Command → List ℕ → Reply
reply_if None bytes = reply 2 (no_request (codes "words"))
reply_if (Some a_road) bytes = reply_to bytes
reply_if (Some (a_make n)) bytes = made_reply n

-- the answer to these words and bytes
abbrev pub reply_for : List (String Global) → List ℕ → Reply
reply_for words bytes = reply_if (command_of words) bytes

-- The bytes are those that are told, or any where none are told.
abbrev pub Tells : Option (List ℕ) → List ℕ → Type 0
Tells None bytes = ⊤
Tells (Some told) bytes = bytes ≡ told

-- How a run ends that owes this reply. Each status but 5 has a cause, which `run` names.
abbrev pub Ends : Reply → ℕ → Option (List ℕ) → Option (List ℕ) → Option ℕ → Type 0
Ends reply status before now flushed =
    -- the whole reply went out and is flushed
    ((status ≡ reply.status) × Appends before now reply.text × IfSome flushed (λ n. IfSome now (λ bytes. n ≡ length bytes)))
    -- a sink's fault: a front of the reply went out
    ⊎ ((status ≡ 4) × ((n : ℕ) × (n ≤ length reply.text) × Appends before now (take n reply.text)))
    -- a source's fault, or want of memory: nothing went out
    ⊎ (((status ≡ 3) ⊎ (status ≡ 5)) × Keeps before now)
