-- What is taken event by event is what was left, cut.
use Rattle.std.specs.Prelude.{Option, Some, None, IfSome, Result, Ok, Err}
use Rattle.std.specs.Result.{IsErrAnd}
use Rattle.cdx_events.specs.declared.gathering.GatherError.{GatherError}
use Rattle.std.proofs.Common.{◌≡◌, ℕ, ◌<◌, ◌≤◌, Bool, true, false, cond, List, [], ◌∷◌, ◌++◌, ◌||◌, length, take, refl, sym, subst, ap, ◌∙◌, append_assoc, arith, length-append}
use Rattle.std.proofs.lemmas.List.{append-nil, take_all}
use Rattle.std.proofs.Math.Seq.{take-append_seam}
use Rattle.cdx_events.specs.declared.event.XmlEvent.{XmlEvent}
use Rattle.cdx_events.specs.Told.{Keeps, Loses, IsAtEnd, GivesNext}
use Rattle.cdx_events.specs.Causes.{Rose}
use Rattle.cdx_events.specs.declared.gathering.GatherError.TheVariants.{Fault, Budget, Memory}
use Rattle.std.specs.declared.alloc.AllocError.{AllocError}
use Rattle.cdx_events.specs.Gather.{is_end, has_end, through_end, cut, TakesEvents}

-- ---- what is left

pub nothing_lost : (left : Option (List XmlEvent)) → Loses left left []
nothing_lost None = tt
nothing_lost (Some xs) = refl

pub loses_more : (a b c : Option (List XmlEvent)) (xs ys : List XmlEvent) → Loses a b xs → Loses b c ys → Loses a c (xs ++ ys)
loses_more None b c xs ys p q = tt
loses_more (Some l) None c xs ys p q = absurd p
loses_more (Some l) (Some m) None xs ys p q = absurd q
loses_more (Some l) (Some m) (Some n) xs ys p q = p ∙ ap (λ zs. xs ++ zs) q ∙ sym (append_assoc xs ys n)

pub loses_kept : (a b c : Option (List XmlEvent)) (xs : List XmlEvent) → Loses a b xs → Keeps b c → Loses a c xs
loses_kept None b c xs p q = tt
loses_kept (Some l) None c xs p q = absurd p
loses_kept (Some l) (Some m) None xs p q = absurd q
loses_kept (Some l) (Some m) (Some n) xs p q = p ∙ ap (λ zs. xs ++ zs) (sym q)

-- ---- document ends

or_no : (a b : Bool) → a || b ≡ false → (a ≡ false) × (b ≡ false)
or_no true b e = absurd cc
or_no false b e = (refl, e)

pub through_more : (xs ys : List XmlEvent) → has_end xs ≡ false → through_end (xs ++ ys) ≡ xs ++ through_end ys
through_more [] ys h = refl
through_more (x ∷ xs) ys h =
    let p = or_no (is_end x) (has_end xs) h in
    ap (λ b. x ∷ cond b [] (through_end (xs ++ ys))) p.0 ∙ ap (λ zs. x ∷ zs) (through_more xs ys p.1)

pub through_last : (xs ys : List XmlEvent) (e : XmlEvent) → has_end xs ≡ false → is_end e ≡ true → through_end (xs ++ e ∷ ys) ≡ xs ++ e ∷ []
through_last xs ys e h i = through_more xs (e ∷ ys) h ∙ ap (λ b. xs ++ e ∷ cond b [] (through_end ys)) i

pub no_end_more : (xs : List XmlEvent) (e : XmlEvent) → has_end xs ≡ false → is_end e ≡ false → has_end (xs ++ e ∷ []) ≡ false
no_end_more [] e h i = rw i refl
no_end_more (x ∷ xs) e h i =
    let p = or_no (is_end x) (has_end xs) h in
    rw p.0 (no_end_more xs e p.1 i)

pub has_last : (xs : List XmlEvent) (e : XmlEvent) → is_end e ≡ true → has_end (xs ++ e ∷ []) ≡ true
has_last [] e i = rw i refl
has_last (x ∷ xs) e i = elim (is_end x) as (λ b. b || has_end (xs ++ e ∷ []) ≡ true) [ true ↦ refl | false ↦ has_last xs e i ]

-- ---- cut

pub cut_none : (xs : List XmlEvent) (budget : ℕ) → has_end xs ≡ false → length xs ≤ budget → cut budget xs ≡ xs
cut_none xs budget h l = ap (λ zs. cut budget zs) (sym (append-nil xs)) ∙ ap (λ zs. take budget zs) (through_more xs [] h ∙ append-nil xs) ∙ take_all budget xs l

none_after : (b : Bool) → ◌≡◌ {A = List XmlEvent} (cond b [] []) []
none_after true = refl
none_after false = refl

pub cut_more : (xs : List XmlEvent) (e : XmlEvent) (budget : ℕ) → has_end xs ≡ false → length xs < budget → cut budget (xs ++ e ∷ []) ≡ xs ++ e ∷ []
cut_more xs e budget h l =
    ap (λ zs. take budget zs) (through_more xs (e ∷ []) h ∙ ap (λ zs. xs ++ e ∷ zs) (none_after (is_end e))) ∙ take_all budget (xs ++ e ∷ []) (omega (arith, length-append xs (e ∷ [])))

-- ---- what was taken is what was left, cut

pub whole_none : (old mid : Option (List XmlEvent)) (xs : List XmlEvent) (budget : ℕ) → Loses old mid xs → IsAtEnd mid → cut budget xs ≡ xs → IfSome old (λ events. xs ≡ cut budget events)
whole_none None mid xs budget p q w = tt
whole_none (Some l) None xs budget p q w = absurd p
whole_none (Some l) (Some m) xs budget p q w =
    let e : l ≡ xs = p ∙ ap (λ zs. xs ++ zs) q ∙ append-nil xs in
    sym w ∙ ap (λ zs. cut budget zs) (sym e)

pub whole_last : (old new : Option (List XmlEvent)) (xs : List XmlEvent) (e : XmlEvent) (budget : ℕ) → Loses old new (xs ++ e ∷ []) → has_end xs ≡ false → is_end e ≡ true → length xs < budget → IfSome old (λ events. xs ++ e ∷ [] ≡ cut budget events)
whole_last None new xs e budget p h i l = tt
whole_last (Some a) None xs e budget p h i l = absurd p
whole_last (Some a) (Some m) xs e budget p h i l =
    let t : through_end a ≡ xs ++ e ∷ [] = ap (λ zs. through_end zs) (p ∙ append_assoc xs (e ∷ []) m) ∙ through_last xs m e h i in
    sym (take_all budget (xs ++ e ∷ []) (omega (arith, length-append xs (e ∷ [])))) ∙ ap (λ zs. take budget zs) (sym t)

pub whole_spent : (old new : Option (List XmlEvent)) (xs : List XmlEvent) (budget : ℕ) → Loses old new xs → has_end xs ≡ false → length xs ≡ budget → IfSome old (λ events. xs ≡ cut budget events)
whole_spent None new xs budget p h l = tt
whole_spent (Some a) None xs budget p h l = absurd p
whole_spent (Some a) (Some m) xs budget p h l =
    let t : through_end a ≡ xs ++ through_end m = ap (λ zs. through_end zs) p ∙ through_more xs m h in
    sym (take-append_seam xs (through_end m)) ∙ ap (λ n. take n (xs ++ through_end m)) l ∙ ap (λ zs. take budget zs) (sym t)

-- ---- where taking ends

pub is_memory : (r : Result (List XmlEvent) GatherError) (a : AllocError) → IsErrAnd r (λ e. e ≡ Memory a) → r ≡ Err (Memory a)
is_memory (Ok xs) a h = absurd h
is_memory (Err e) a h = ap (λ (x : GatherError). Err x) h

pub at_source_end : (old mid new : Option (List XmlEvent)) (xs : List XmlEvent) (budget before now : ℕ) → Loses old mid xs → has_end xs ≡ false → length xs < budget → GivesNext mid new None → now ≡ before → TakesEvents budget old new before now (Ok xs)
at_source_end old mid new xs budget before now p h l g s =
    let w : cut budget xs ≡ xs = cut_none xs budget h (omega arith) in
    record { taken = xs; after = loses_kept old mid new xs p g.1; within = w; answer = (refl, record { sound = s; whole = whole_none old mid xs budget p g.0 w }, λ spent. absurd (omega (arith, spent.all))) }

pub at_fault : (old mid new : Option (List XmlEvent)) (xs : List XmlEvent) (budget before held now count : ℕ) → Loses old mid xs → has_end xs ≡ false → length xs ≡ count → count < budget → Keeps mid new → held ≡ before → Rose held now → TakesEvents budget old new before now (Err (Fault count))
at_fault old mid new xs budget before held now count p h n l k s r =
    record {
      taken = xs;
      after = loses_kept old mid new xs p k;
      within = cut_none xs budget h (omega arith);
      answer = (sym n, record { rose = subst (λ n. Rose n now) s r; early = omega arith; no_end = h });
    }

pub at_memory : (old mid new : Option (List XmlEvent)) (xs : List XmlEvent) (e : XmlEvent) (budget before held now : ℕ) (a : AllocError) → Loses old mid xs → has_end xs ≡ false → length xs < budget → Loses mid new (e ∷ []) → held ≡ before → held ≤ now → TakesEvents budget old new before now (Err (Memory a))
at_memory old mid new xs e budget before held now a p h l q s r =
    record { taken = xs ++ e ∷ []; after = loses_more old mid new xs (e ∷ []) p q; within = cut_more xs e budget h l; answer = omega arith }

pub at_document_end : (old mid new : Option (List XmlEvent)) (xs ys : List XmlEvent) (e : XmlEvent) (budget before now : ℕ) → Loses old mid xs → has_end xs ≡ false → length xs < budget → Loses mid new (e ∷ []) → is_end e ≡ true → ys ≡ xs ++ e ∷ [] → now ≡ before → TakesEvents budget old new before now (Ok ys)
at_document_end old mid new xs ys e budget before now p h l q i y s =
    let after : Loses old new (xs ++ e ∷ []) = loses_more old mid new xs (e ∷ []) p q in
    let ends : has_end (xs ++ e ∷ []) ≡ true = has_last xs e i in
    record {
      taken = xs ++ e ∷ [];
      after = after;
      within = cut_more xs e budget h l;
      answer = (y, record { sound = s; whole = whole_last old new xs e budget after h i l }, λ spent. let n = spent.no_end in absurd cc);
    }

pub at_budget : (old new : Option (List XmlEvent)) (xs : List XmlEvent) (budget before now : ℕ) → Loses old new xs → has_end xs ≡ false → length xs ≡ budget → now ≡ before → TakesEvents budget old new before now (Err (Budget budget))
at_budget old new xs budget before now p h l s =
    record {
      taken = xs;
      after = p;
      within = cut_none xs budget h (omega arith);
      answer = (sym l, record { all = l; no_end = h }, record { sound = s; whole = whole_spent old new xs budget p h l });
    }
