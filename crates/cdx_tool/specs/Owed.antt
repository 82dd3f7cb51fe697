-- What a command's program answers: the frame that the programs share.
use Rattle.std.specs.Prelude.{◌≡◌, ◌⊎◌, ℕ, List, codes, length, nat_lt, if◌then◌else◌, Option, Some, None}
use Rattle.cdx_request.specs.Replies.{Reply, reply, no_request, limit}

-- The reply to a command and the bytes that the source holds, where `owed` says what the command owes to bytes that are
-- no more than the limit.
abbrev pub reply_by : {C : Type 0} → (C → List ℕ → Reply) → Option C → List ℕ → Reply
reply_by owed None bytes = reply 2 (no_request (codes "words"))
reply_by owed (Some c) bytes = if nat_lt limit (length bytes) then reply 6 (no_request (codes "too long")) else owed c bytes

-- the statuses of what a command owes to bytes: served, refused, or no request of its kind
abbrev pub IsSettled : ℕ → Type 0
IsSettled status = (status ≡ 0) ⊎ (status ≡ 1) ⊎ (status ≡ 2)
