-- What is put event by event is appended.
use Rattle.std.specs.Prelude.{Option, Some, None}
use Rattle.std.proofs.Common.{◌≡◌, ℕ, ◌+◌, ◌<◌, List, [], ◌∷◌, ◌++◌, length, take, sym, subst, ap, ◌∙◌, append_assoc, arith, length-append}
use Rattle.std.proofs.Math.Seq.{take-append_seam}
use Rattle.cdx_events.specs.declared.event.XmlEvent.{XmlEvent}
use Rattle.cdx_events.specs.Told.{Keeps, Gains}

gains_more : (a b c : Option (List XmlEvent)) (xs ys : List XmlEvent) → Gains a b xs → Gains b c ys → Gains a c (xs ++ ys)
gains_more None b c xs ys p q = tt
gains_more (Some l) None c xs ys p q = absurd p
gains_more (Some l) (Some m) None xs ys p q = absurd q
gains_more (Some l) (Some m) (Some n) xs ys p q = q ∙ ap (λ zs. zs ++ ys) p ∙ append_assoc l xs ys

gains_kept : (a b c : Option (List XmlEvent)) (xs : List XmlEvent) → Gains a b xs → Keeps b c → Gains a c xs
gains_kept None b c xs p q = tt
gains_kept (Some l) None c xs p q = absurd p
gains_kept (Some l) (Some m) None xs p q = absurd q
gains_kept (Some l) (Some m) (Some n) xs p q = q ∙ p

-- the first events were put, and the others wait
pub record IsPut (events waiting : List XmlEvent) (put : ℕ) (old now : Option (List XmlEvent)) : Type 0 where
  pub front : List XmlEvent
  pub whole : events ≡ front ++ waiting
  pub count : length front ≡ put
  pub gained : Gains old now front

pub one_put : (events waiting rest : List XmlEvent) (event : XmlEvent) (put : ℕ) (old now next : Option (List XmlEvent)) → IsPut events waiting put old now → waiting ≡ event ∷ rest → Gains now next (event ∷ []) → IsPut events rest (put + 1) old next
one_put events waiting rest event put old now next p w g =
    record {
      front = p.front ++ event ∷ [];
      whole = p.whole ∙ ap (λ zs. p.front ++ zs) w ∙ sym (append_assoc p.front (event ∷ []) rest);
      count = omega (arith, length-append p.front (event ∷ []), p.count);
      gained = gains_more old now next p.front (event ∷ []) p.gained g;
    }

pub put_fails : (events waiting rest : List XmlEvent) (event : XmlEvent) (put : ℕ) (old now next : Option (List XmlEvent)) → IsPut events waiting put old now → waiting ≡ event ∷ rest → Keeps now next → Gains old next (take put events) × (put < length events)
put_fails events waiting rest event put old now next p w k =
    let whole : events ≡ p.front ++ event ∷ rest = p.whole ∙ ap (λ zs. p.front ++ zs) w in
    let front : take put events ≡ p.front = subst (λ n. take n events ≡ p.front) p.count (ap (λ zs. take (length p.front) zs) p.whole ∙ take-append_seam p.front waiting) in
    (subst (λ zs. Gains old next zs) (sym front) (gains_kept old now next p.front p.gained k), omega (arith, ap (λ zs. length zs) whole, length-append p.front (event ∷ rest), p.count))
