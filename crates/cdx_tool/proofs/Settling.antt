-- How a program of the frame ends.
use Rattle.std.proofs.Common.{◌≡◌, ℕ, ◌<◌, List, [], ◌++◌, length, codes, Option, Some, None, ◌⊎◌, inl, inr, refl, sym, ap, subst, ◌∙◌, arith}
use Rattle.std.specs.Io.KnownBytes.{Keeps, Consumes, IsAtEnd}
use Rattle.std.proofs.lemmas.Bool.{lt-ltb}
use Rattle.std.proofs.lemmas.List.{length-append, append-nil}
use Rattle.cdx_request.specs.Replies.{Reply, reply, no_request, limit}
use Rattle.cdx_tool.specs.Owed.{reply_by, IsSettled}
use Rattle.cdx_tool.specs.Run.{Tells, Ends}

-- more was taken than may come
pub long_told : (o n : Option (List ℕ)) (taken : List ℕ) → Consumes o n taken → limit < length taken → (bytes : List ℕ) × Tells o bytes × (limit < length bytes)
long_told None n taken h lt = (taken, tt, lt)
long_told (Some told) None taken h lt = absurd h
long_told (Some told) (Some rest) taken h lt = (told, refl, omega (arith, ap length h, length-append taken rest))

too_long_by : {C : Type 0} (owed : C → List ℕ → Reply) (c : C) (bytes : List ℕ) → limit < length bytes → reply 6 (no_request (codes "too long")) ≡ reply_by owed (Some c) bytes
too_long_by owed c bytes h = rw (lt-ltb limit (length bytes) h) refl

pub owed_to_long : {C : Type 0} (owed : C → List ℕ → Reply) (c : C) (o n : Option (List ℕ)) (taken : List ℕ) (r : Reply) → Consumes o n taken → limit < length taken → r ≡ reply 6 (no_request (codes "too long"))
    → (bytes : List ℕ) × Tells o bytes × (r ≡ reply_by owed (Some c) bytes)
owed_to_long owed c o n taken r h lt e = let t = long_told o n taken h lt in (t.0, t.1, e ∙ too_long_by owed c t.0 t.2)

-- all that was left was taken
pub all_told : (o n : Option (List ℕ)) (taken : List ℕ) → Consumes o n taken → IsAtEnd n → Tells o taken
all_told None n taken h end = tt
all_told (Some told) None taken h end = absurd h
all_told (Some told) (Some rest) taken h end = sym (h ∙ ap (λ bs. taken ++ bs) end ∙ append-nil taken)

pub some_told : (o : Option (List ℕ)) → (bytes : List ℕ) × Tells o bytes
some_told None = ([], tt)
some_told (Some told) = (told, refl)

pub keeps_itself : (o : Option (List ℕ)) → Keeps o o
keeps_itself None = tt
keeps_itself (Some xs) = refl

-- what is owed to no command, whatever the bytes are
pub owed_to_none : {C : Type 0} (owed : C → List ℕ → Reply) (c : Option C) (o : Option (List ℕ)) (r : Reply) → c ≡ None → r ≡ reply 2 (no_request (codes "words")) → (bytes : List ℕ) × Tells o bytes × (r ≡ reply_by owed c bytes)
owed_to_none owed c o r is e = let t = some_told o in (t.0, t.1, e ∙ ap (λ c. reply_by owed c t.0) (sym is))

-- nothing was written
pub ends_unwritten : (o w : Option (List ℕ)) (owed : List ℕ → Reply) (flushed : Option ℕ) (status : ℕ) → (status ≡ 3) ⊎ (status ≡ 5) → (bytes : List ℕ) × Tells o bytes × Ends (owed bytes) status w w flushed
ends_unwritten o w owed flushed status h = let t = some_told o in (t.0, t.1, inr (inr (h, keeps_itself w)))

-- the status is that of the reply to the bytes that are told
pub status_owed : (o : Option (List ℕ)) (told bytes : List ℕ) (owed : List ℕ → Reply) (r : Reply) → Tells o told → r ≡ owed told → o ≡ Some bytes → r.status ≡ (owed bytes).status
status_owed o told bytes owed r tells is said =
    let same : told ≡ bytes = subst (λ (o : Option (List ℕ)). Tells o told) said tells in
    ap (λ (x : Reply). x.status) (is ∙ ap owed same)

-- how far the source was read where the answer didn't go out whole
pub read_far : (o left : Option (List ℕ)) (status : ℕ) → ((status ≡ 6) × ((bytes : List ℕ) × Tells o bytes × (limit < length bytes))) ⊎ (IsSettled status × IsAtEnd left)
    → (bytes : List ℕ) × Tells o bytes × ((limit < length bytes) ⊎ IsAtEnd left)
read_far o left status (inl long) = (long.1.0, long.1.1, inl long.1.2)
read_far o left status (inr whole) = let t = some_told o in (t.0, t.1, inr whole.1)
