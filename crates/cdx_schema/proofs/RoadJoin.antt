-- A road in two parts.
use Rattle.std.specs.Prelude.{◌≡◌, refl, List, [], ◌∷◌, ◌++◌, Bool, true, false, ◌&&◌, ◌⊎◌, Result, Ok, Err}
use Rattle.std.proofs.Common.{inl, inr}
use mathlib.Core.Path.{ap, sym, ◌∙◌, subst}
use Rattle.cdx_models.specs.declared.bom.SpecVersion.{SpecVersion}
use Rattle.cdx_models.specs.Trees.{Tree}
use Rattle.cdx_schema.specs.Kinds.{a_bill}
use Rattle.cdx_schema.specs.Keeping.{keep, fits, has_versions}
use Rattle.cdx_schema.specs.Trips.{Hop, last_of}
use Rattle.cdx_schema.specs.Roads.{Doc, Refusal, version_missing, denotes, document_of, fits_all, hops_from, road}
use Rattle.cdx_schema.specs.Laws.{HasBillShape, IsShallow, end_doc, DenotesShapes, RoadsJoin}
use Rattle.cdx_schema.proofs.JsonBack.{and_true, err_ok}
use Rattle.cdx_schema.proofs.ReadOf.{ok_same}
use Rattle.cdx_schema.proofs.RoadAfter.{IsNext, hop, fits_all_alike}
use Rattle.cdx_schema.proofs.Basics.{choose}

fits_append : (g h : List Hop) (b : Tree) → fits_all (g ++ h) b ≡ (fits_all g b && fits_all h b)
fits_append [] h b = refl
fits_append (x ∷ g) h b = ap (λ c. fits x.version b a_bill && c) (fits_append g h b) ∙ and_assoc (fits x.version b a_bill) (fits_all g b) (fits_all h b)
  where
    and_assoc : (p q r : Bool) → (p && (q && r)) ≡ ((p && q) && r)
    and_assoc true q r = refl
    and_assoc false q r = refl

-- Where hops lead, and that further hops go on from there.
abbrev Leads : List Hop → Doc → SpecVersion → Tree → List Doc → Tree → Type 0
Leads hs x v c docs d = (hops_from x v hs ≡ Ok docs) × (denotes (end_doc x docs) (last_of v hs) ≡ Ok d) × HasBillShape d × IsShallow d × (has_versions d a_bill ≡ has_versions c a_bill)
    × ((rest : List Hop) (more : List Doc) → hops_from (end_doc x docs) (last_of v hs) rest ≡ Ok more → hops_from x v (hs ++ rest) ≡ Ok (docs ++ more))

run : (hs : List Hop) (x : Doc) (v : SpecVersion) (c : Tree) → denotes x v ≡ Ok c → HasBillShape c → IsShallow c → fits_all hs c ≡ true → (docs : List Doc) × (d : Tree) × Leads hs x v c docs d
run [] x v c is of s f = ([], c, (refl, is, of, s, refl, λ rest more e. e))
run (h ∷ hs) x v c is of s f =
    let w : SpecVersion = h.version in
    let p : (fits w c a_bill ≡ true) × (fits_all hs c ≡ true) = and_true (fits w c a_bill) (fits_all hs c) f in
    let y : Doc = document_of h.form w (keep w c a_bill) in
    let n : (d : Tree) × IsNext h.form w c d = hop h.form w c of s p.0 in
    let r : (docs : List Doc) × (d : Tree) × Leads hs y w n.0 docs d = run hs y w n.0 n.1.0 n.1.1 n.1.2 (fits_all_alike hs c n.0 n.1.3 ∙ p.1) in
    (y ∷ r.0, r.1, (rw (is, r.2.0) refl, r.2.1, r.2.2, r.2.3, r.2.4 ∙ n.1.3, λ rest more e. rw (is, r.2.5 rest more e) refl))

-- ---- roads

pub road_leads : (hs : List Hop) (x : Doc) (v : SpecVersion) (b : Tree) → denotes x v ≡ Ok b → fits_all hs b ≡ true → road x v hs ≡ hops_from x v hs
road_leads hs x v b is f = rw (is, f) refl

pub road_lacks : (hs : List Hop) (x : Doc) (v : SpecVersion) (b : Tree) → denotes x v ≡ Ok b → fits_all hs b ≡ false → road x v hs ≡ Err version_missing
road_lacks hs x v b is f = rw (is, f) refl

pub road_fails : (hs : List Hop) (x : Doc) (v : SpecVersion) (e : Refusal) → denotes x v ≡ Err e → road x v hs ≡ Err e
road_fails hs x v e is = rw is refl

pub refuted : {A F B : Type 0} {r : Result A F} {a : A} {f : F} → r ≡ Ok a → r ≡ Err f → B
refuted p q = absurd (err_ok (sym q ∙ p))

-- What is known of a document: a fault, or a bill.
abbrev pub Known : Doc → SpecVersion → Type 0
Known x v = ((e : Refusal) × (denotes x v ≡ Err e)) ⊎ ((b : Tree) × (denotes x v ≡ Ok b) × HasBillShape b × IsShallow b)

pub known : DenotesShapes → (x : Doc) (v : SpecVersion) → Known x v
known bills x v = by (denotes x v) refl
  where
    by : (r : Result Tree Refusal) → denotes x v ≡ r → Known x v
    by (Ok b) e = let p : HasBillShape b × IsShallow b = bills x v b e in inr (b, e, p.0, p.1)
    by (Err f) e = inl (f, e)

-- A road that isn't refused, and the bill at its end.
abbrev Open : Doc → SpecVersion → List Hop → Tree → List Doc → Tree → Type 0
Open x v hs b docs d = (fits_all hs b ≡ true) × (road x v hs ≡ Ok docs) × Leads hs x v b docs d

opened : (x : Doc) (v : SpecVersion) (hs : List Hop) (b : Tree) → denotes x v ≡ Ok b → HasBillShape b → IsShallow b → fits_all hs b ≡ true → (docs : List Doc) × (d : Tree) × Open x v hs b docs d
opened x v hs b is of s f =
    let r : (docs : List Doc) × (d : Tree) × Leads hs x v b docs d = run hs x v b is of s f in
    (r.0, r.1, (f, road_leads hs x v b is f ∙ r.2.0, r.2))

-- the same with the documents given
reopened : (x : Doc) (v : SpecVersion) (hs : List Hop) (docs : List Doc) → Known x v → road x v hs ≡ Ok docs → (b : Tree) × (denotes x v ≡ Ok b) × (d : Tree) × Open x v hs b docs d
reopened x v hs docs (inl e) o = refuted o (road_fails hs x v e.0 e.1)
reopened x v hs docs (inr k) o = choose (fits_all hs k.0)
    (λ f. let r : (ds : List Doc) × (d : Tree) × Open x v hs k.0 ds d = opened x v hs k.0 k.1 k.2 k.3 f in
    (k.0, k.1, r.1, subst (λ (ds : List Doc). Open x v hs k.0 ds r.1) (ok_same (sym r.2.1 ∙ o)) r.2))
    (λ f. refuted o (road_lacks hs x v k.0 k.1 f))

fits_both : (g h : List Hop) (b : Tree) (p q : Bool) → fits_all g b ≡ p → fits_all h b ≡ q → fits_all (g ++ h) b ≡ (p && q)
fits_both g h b p q e f = fits_append g h b ∙ (ap (λ c. c && fits_all h b) e ∙ ap (λ c. p && c) f)

-- the second part: it is refused for a missing version, or it leads on
second : (x : Doc) (v : SpecVersion) (hs rest : List Hop) (b : Tree) (docs : List Doc) (d : Tree) → denotes x v ≡ Ok b → Open x v hs b docs d
    → ((fits_all rest b ≡ false) × (road (end_doc x docs) (last_of v hs) rest ≡ Err version_missing))
    ⊎ ((fits_all rest b ≡ true) × ((more : List Doc) × (road (end_doc x docs) (last_of v hs) rest ≡ Ok more) × (road x v (hs ++ rest) ≡ Ok (docs ++ more))))
second x v hs rest b docs d is o = choose (fits_all rest b)
    (λ f. let r : (ds : List Doc) × (z : Tree) × Open (end_doc x docs) (last_of v hs) rest d ds z = opened (end_doc x docs) (last_of v hs) rest d o.2.1 o.2.2 o.2.3 (fits_all_alike rest b d o.2.4 ∙ f) in
    inr (f, (r.0, r.2.1, road_leads (hs ++ rest) x v b is (fits_both hs rest b true true o.0 f) ∙ o.2.5 rest r.0 r.2.2.0)))
    (λ f. inl (f, road_lacks rest (end_doc x docs) (last_of v hs) d o.2.1 (fits_all_alike rest b d o.2.4 ∙ f)))

pub roads_join : DenotesShapes → RoadsJoin
roads_join bills x v hs rest = (whole, (forth (known bills x v), back))
  where
    whole : (docs more : List Doc) → road x v hs ≡ Ok docs → road (end_doc x docs) (last_of v hs) rest ≡ Ok more → road x v (hs ++ rest) ≡ Ok (docs ++ more)
    whole docs more p q =
        let r : (b : Tree) × (denotes x v ≡ Ok b) × (d : Tree) × Open x v hs b docs d = reopened x v hs docs (known bills x v) p in
        elim (second x v hs rest r.0 docs r.2 r.1 r.3) [ inl e ↦ refuted q e.1 | inr e ↦ e.1.2 ∙ ap (λ m. Ok (docs ++ m)) (ok_same (sym e.1.1 ∙ q)) ]

    Either : Type 0
    Either = (road x v hs ≡ Err version_missing) ⊎ ((docs : List Doc) × (road x v hs ≡ Ok docs) × (road (end_doc x docs) (last_of v hs) rest ≡ Err version_missing))

    forth : Known x v → road x v (hs ++ rest) ≡ Err version_missing → Either
    forth (inl e) p = inl (road_fails hs x v e.0 e.1 ∙ (sym (road_fails (hs ++ rest) x v e.0 e.1) ∙ p))
    forth (inr k) p = choose (fits_all hs k.0)
        (λ f. let r : (docs : List Doc) × (d : Tree) × Open x v hs k.0 docs d = opened x v hs k.0 k.1 k.2 k.3 f in
        elim (second x v hs rest k.0 r.0 r.1 k.1 r.2) [ inl e ↦ inr (r.0, r.2.1, e.1) | inr e ↦ refuted e.1.2 p ])
        (λ f. inl (road_lacks hs x v k.0 k.1 f))

    from_first : Known x v → road x v hs ≡ Err version_missing → road x v (hs ++ rest) ≡ Err version_missing
    from_first (inl e) p = road_fails (hs ++ rest) x v e.0 e.1 ∙ (sym (road_fails hs x v e.0 e.1) ∙ p)
    from_first (inr k) p = choose (fits_all hs k.0)
        (λ f. refuted (opened x v hs k.0 k.1 k.2 k.3 f).2.1 p)
        (λ f. road_lacks (hs ++ rest) x v k.0 k.1 (fits_append hs rest k.0 ∙ ap (λ c. c && fits_all rest k.0) f))

    from_second : (docs : List Doc) → road x v hs ≡ Ok docs → road (end_doc x docs) (last_of v hs) rest ≡ Err version_missing → road x v (hs ++ rest) ≡ Err version_missing
    from_second docs p q =
        let r : (b : Tree) × (denotes x v ≡ Ok b) × (d : Tree) × Open x v hs b docs d = reopened x v hs docs (known bills x v) p in
        elim (second x v hs rest r.0 docs r.2 r.1 r.3) [ inl e ↦ road_lacks (hs ++ rest) x v r.0 r.1 (fits_both hs rest r.0 true false r.3.0 e.0) | inr e ↦ refuted e.1.1 q ]

    back : Either → road x v (hs ++ rest) ≡ Err version_missing
    back (inl p) = from_first (known bills x v) p
    back (inr p) = from_second p.0 p.1 p.2
