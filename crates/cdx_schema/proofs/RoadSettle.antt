-- Roads settle: a document depends only on its hop, the lowest version so far and the hops through XML so far, counted to two.
use Rattle.std.specs.Prelude.{◌≡◌, refl, ℕ, zero, suc, List, [], ◌∷◌, ◌++◌, Bool, true, false, ◌⊎◌, Ok}
use Rattle.std.proofs.Common.{true≢false, inl, inr}
use Rattle.std.proofs.Math.Nat.{suc_inj}
use mathlib.Core.Path.{ap, sym, ◌∙◌, subst}
use Rattle.cdx_models.specs.declared.bom.SpecVersion.{SpecVersion}
use Rattle.cdx_models.specs.declared.bom.SpecVersion.TheVariants.{V1_3, V1_4, V1_5}
use Rattle.cdx_models.specs.Trees.{Tree}
use Rattle.cdx_schema.specs.Kinds.{a_bill}
use Rattle.cdx_schema.specs.Results.{◌>>=◌}
use Rattle.cdx_schema.specs.Keeping.{kept, keep, fits}
use Rattle.cdx_schema.specs.JsonSpelling.{jspell}
use Rattle.cdx_schema.specs.XmlSpelling.{root}
use Rattle.cdx_schema.specs.Trips.{bare, settled, Form, in_json, in_xml, Hop, lowest_of, last_of, trips}
use Rattle.cdx_schema.specs.Roads.{Doc, json, xml, denotes, document_of, fits_all, hops_from, road}
use Rattle.cdx_schema.specs.Membership.{AnyText}
use Rattle.cdx_schema.specs.Laws.{HasBillShape, IsShallow, after_all, lowest_with, xml_count, doc_after, IsAlike, DenotesShapes, RoadsSettle}
use Rattle.cdx_schema.proofs.JsonBack.{and_true}
use Rattle.cdx_schema.proofs.ReadOf.{ok_same, bind_ok}
use Rattle.cdx_schema.proofs.KeptTwice.{kept_twice}
use Rattle.cdx_schema.proofs.KeptOf.{kept_of}
use Rattle.cdx_schema.proofs.TrippedOf.{bare_of}
use Rattle.cdx_schema.proofs.Alike.{kept_alike}
use Rattle.cdx_schema.proofs.BareTwice.{bare_twice}
use Rattle.cdx_schema.proofs.Written.{is_low, kept_low, root_alike}
use Rattle.cdx_schema.proofs.Unwritten.{root_unsupplied}
use Rattle.cdx_schema.proofs.RoadAfter.{one_more, lowest_sym, lowest_more, kept_trips, after_more, IsNext, hop, fits_all_alike}
use Rattle.cdx_schema.proofs.RoadJoin.{Known, known, refuted, road_fails, road_lacks, road_leads}
use Rattle.cdx_schema.proofs.Basics.{choose}

-- ---- counts

abbrev times : ℕ → Tree → Tree
times zero y = y
times (suc n) y = times n (bare y)

times_step : (f : Form) (a b : Tree) (m n : ℕ) (y : Tree) → a ≡ times m y → b ≡ times n (bare y) → (elim f [ in_json ↦ a | in_xml ↦ b ]) ≡ times (elim f [ in_json ↦ m | in_xml ↦ suc n ]) y
times_step in_json a b m n y p q = p
times_step in_xml a b m n y p q = q

trips_times : (hs : List Hop) (n : ℕ) (y : Tree) → trips hs n y ≡ times (xml_count n hs) y
trips_times hs zero y = refl
trips_times [] (suc n) y = refl
trips_times (h ∷ hs) (suc n) y = times_step h.form (trips hs (suc n) y) (trips hs n (bare y)) (xml_count (suc n) hs) (xml_count n hs) y (trips_times hs (suc n) y) (trips_times hs n (bare y))

abbrev Counted : Form → ℕ → ℕ → ℕ
Counted f m n = elim f [ in_json ↦ m | in_xml ↦ suc n ]

json_alone : (f : Form) (m n : ℕ) → f ≡ in_json → Counted f m n ≡ m
json_alone in_json m n e = refl
json_alone in_xml m n e = absurd (true≢false (ap is_xml e))
  where
    is_xml : Form → Bool
    is_xml in_xml = true
    is_xml in_json = false

xml_alone : (f : Form) (m n : ℕ) → f ≡ in_xml → Counted f m n ≡ suc n
xml_alone in_xml m n e = refl
xml_alone in_json m n e = absurd (true≢false (ap is_json e))
  where
    is_json : Form → Bool
    is_json in_json = true
    is_json in_xml = false

count_step : (f : Form) (a b m n : ℕ) → a ≡ m → b ≡ n → Counted f a b ≡ Counted f m n
count_step f a b m n p q = rw (p, q) refl

count_json : (hs : List Hop) (g : Hop) (n : ℕ) → g.form ≡ in_json → xml_count n (hs ++ (g ∷ [])) ≡ xml_count n hs
count_json hs g zero e = refl
count_json [] g (suc n) e = json_alone g.form (xml_count (suc n) []) (xml_count n []) e
count_json (h ∷ hs) g (suc n) e = count_step h.form (xml_count (suc n) (hs ++ (g ∷ []))) (xml_count n (hs ++ (g ∷ []))) (xml_count (suc n) hs) (xml_count n hs) (count_json hs g (suc n) e) (count_json hs g n e)

xml_step : (f : Form) (a b m n : ℕ) → a ≡ suc m → b ≡ n → Counted f a b ≡ suc (elim f [ in_json ↦ m | in_xml ↦ n ])
xml_step in_json a b m n p q = p
xml_step in_xml a b m n p q = ap suc q

-- An XML hop counts for one, and those before it for one less.
count_xml : (hs : List Hop) (g : Hop) (n : ℕ) → g.form ≡ in_xml → xml_count (suc n) (hs ++ (g ∷ [])) ≡ suc (xml_count n hs)
count_xml [] g n e = xml_alone g.form (xml_count (suc n) []) (xml_count n []) e ∙ refl
count_xml (h ∷ hs) g zero e = by h.form (count_xml hs g zero e)
  where
    by : (f : Form) → xml_count 1 (hs ++ (g ∷ [])) ≡ 1 → Counted f (xml_count 1 (hs ++ (g ∷ []))) 0 ≡ 1
    by in_json i = i
    by in_xml i = refl
count_xml (h ∷ hs) g (suc n) e = xml_step h.form (xml_count (suc (suc n)) (hs ++ (g ∷ []))) (xml_count (suc n) (hs ++ (g ∷ []))) (xml_count (suc n) hs) (suc (xml_count n hs)) (count_xml hs g (suc n) e) (count_xml hs g n e)

-- counted to one and to two
abbrev IsCapped : ℕ → ℕ → Type 0
IsCapped m n = (m ≡ n) ⊎ ((m ≡ 1) × (n ≡ 2))

abbrev IsOne : ℕ → Type 0
IsOne m = (m ≡ 0) ⊎ (m ≡ 1)

one_step : (f : Form) (m : ℕ) → IsOne m → IsOne (Counted f m 0)
one_step in_json m h = h
one_step in_xml m h = inr refl

to_one : (hs : List Hop) → IsOne (xml_count 1 hs)
to_one [] = inl refl
to_one (h ∷ hs) = one_step h.form (xml_count 1 hs) (to_one hs)

capped_step : (f : Form) (m n : ℕ) → IsCapped m n → IsOne m → IsCapped (Counted f m 0) (Counted f n m)
capped_step in_json m n h o = h
capped_step in_xml m n h (inl e) = inl (ap suc (sym e))
capped_step in_xml m n h (inr e) = inr (refl, ap suc e)

capped : (hs : List Hop) → IsCapped (xml_count 1 hs) (xml_count 2 hs)
capped [] = inl refl
capped (h ∷ hs) = capped_step h.form (xml_count 1 hs) (xml_count 2 hs) (capped hs) (to_one hs)

-- What the second trip takes isn't written in XML.
root_twice : (m n : ℕ) (y : Tree) (w : SpecVersion) → HasBillShape y → IsCapped m n → root (times n y) w ≡ root (times m y) w
root_twice m n y w is (inl e) = ap (λ i. root (times i y) w) (sym e)
root_twice m n y w is (inr e) =
    ap (λ i. root (times i y) w) e.1
    ∙ (ap (λ t. root t w) (bare_twice y a_bill is)
    ∙ (root_unsupplied (bare y) w (bare_of AnyText y a_bill is)
    ∙ ap (λ i. root (times i y) w) (sym e.0)))

-- ---- the document of a hop

-- What the hop's version keeps of the bill after the hops before it.
keep_after : (b : Tree) (before : List Hop) (g : Hop) → HasBillShape b → keep g.version (after_all b before) a_bill ≡ trips before 2 (kept (lowest_with before g) g.version b a_bill)
keep_after b [] g of = refl
keep_after b (h ∷ hs) g of =
    let u : SpecVersion = lowest_of h.version hs in
    let l : SpecVersion = last_of h.version hs in
    let w : SpecVersion = g.version in
    kept_trips w w (h ∷ hs) 2 (kept u l b a_bill) (kept_of AnyText u l b a_bill of)
    ∙ (ap (λ x. trips (h ∷ hs) 2 x) (kept_twice w u l w b a_bill of)
    ∙ ap (λ x. trips (h ∷ hs) 2 (kept x w b a_bill)) (lowest_sym w u ∙ sym (lowest_more h.version hs g)))

-- The same bill is written, at least in XML.
abbrev SameAt : Form → SpecVersion → Tree → Tree → Type 0
SameAt in_json w s t = keep w s a_bill ≡ keep w t a_bill
SameAt in_xml w s t = root (keep w s a_bill) w ≡ root (keep w t a_bill) w

-- what is kept, by the lowest version and the count
by_count : (b : Tree) (g : List Hop) (a : Hop) (u w : SpecVersion) → HasBillShape b → a.version ≡ w → lowest_with g a ≡ u → keep w (after_all b g) a_bill ≡ times (xml_count 2 g) (kept u w b a_bill)
by_count b g a u w of e f =
    ap (λ v. keep v (after_all b g) a_bill) (sym e)
    ∙ (keep_after b g a of
    ∙ (trips_times g 2 (kept (lowest_with g a) a.version b a_bill)
    ∙ (ap (λ v. times (xml_count 2 g) (kept (lowest_with g a) v b a_bill)) e
    ∙ ap (λ v. times (xml_count 2 g) (kept v w b a_bill)) f)))

same_at : (f : Form) (b : Tree) (g h : List Hop) (a c : Hop) → HasBillShape b → a.form ≡ f → c.form ≡ f → a.version ≡ c.version → lowest_with g a ≡ lowest_with h c → xml_count 2 (g ++ (a ∷ [])) ≡ xml_count 2 (h ++ (c ∷ [])) → SameAt f c.version (after_all b g) (after_all b h)
same_at in_json b g h a c of p q versions lows counts =
    by_count b g a (lowest_with h c) c.version of versions lows
    ∙ (ap (λ i. times i (kept (lowest_with h c) c.version b a_bill)) (sym (count_json g a 2 p) ∙ (counts ∙ count_json h c 2 q))
    ∙ sym (by_count b h c (lowest_with h c) c.version of refl refl))
same_at in_xml b g h a c of p q versions lows counts =
    let y : Tree = kept (lowest_with h c) c.version b a_bill in
    let w : SpecVersion = c.version in
    let is : HasBillShape y = kept_of AnyText (lowest_with h c) c.version b a_bill of in
    ap (λ t. root t w) (by_count b g a (lowest_with h c) w of versions lows)
    ∙ (root_twice (xml_count 1 g) (xml_count 2 g) y w is (capped g)
    ∙ (ap (λ i. root (times i y) w) (suc_inj (sym (count_xml g a 1 p) ∙ (counts ∙ count_xml h c 1 q)))
    ∙ (sym (root_twice (xml_count 1 h) (xml_count 2 h) y w is (capped h))
    ∙ sym (ap (λ t. root t w) (by_count b h c (lowest_with h c) w of refl refl)))))

-- ---- the documents of a road

low_alike : (w : SpecVersion) (x y s t : Tree) → is_low w ≡ true → settled x a_bill ≡ settled s a_bill → settled y a_bill ≡ settled t a_bill → keep w s a_bill ≡ keep w t a_bill
    → IsAlike w (document_of in_json w (keep w x a_bill)) (document_of in_json w (keep w y a_bill))
low_alike w x y s t l p q e = inl (ap (λ z. json (jspell z w a_bill)) (kept_low w w x s a_bill l p ∙ (e ∙ sym (kept_low w w y t a_bill l q))))

written_alike : (f : Form) (w : SpecVersion) (x y s t : Tree) → settled x a_bill ≡ settled s a_bill → settled y a_bill ≡ settled t a_bill → SameAt f w s t → IsAlike w (document_of f w (keep w x a_bill)) (document_of f w (keep w y a_bill))
written_alike in_json V1_3 x y s t p q e = low_alike V1_3 x y s t refl p q e
written_alike in_json V1_4 x y s t p q e = low_alike V1_4 x y s t refl p q e
written_alike in_json V1_5 x y s t p q e = inr (refl, (keep V1_5 x a_bill, keep V1_5 y a_bill, refl, refl, kept_alike V1_5 V1_5 x s a_bill p ∙ (ap (λ z. settled z a_bill) e ∙ sym (kept_alike V1_5 V1_5 y t a_bill q))))
written_alike in_xml w x y s t p q e = inl (ap xml (root_alike (keep w x a_bill) (keep w s a_bill) w (kept_alike w w x s a_bill p) ∙ (e ∙ sym (root_alike (keep w y a_bill) (keep w t a_bill) w (kept_alike w w y t a_bill q)))))

nothing_more : (hs : List Hop) → hs ++ [] ≡ hs
nothing_more [] = refl
nothing_more (h ∷ hs) = ap (h ∷◌) (nothing_more hs)

abbrev IsSpot : Tree → List Hop → Hop → Doc → Type 0
IsSpot b before a y = (c : Tree) × (y ≡ document_of a.form a.version (keep a.version c a_bill)) × (settled c a_bill ≡ settled (after_all b before) a_bill)

first_hop : (h : Hop) (hs : List Hop) (x : Doc) (v : SpecVersion) (c : Tree) (docs : List Doc) → denotes x v ≡ Ok c → hops_from x v (h ∷ hs) ≡ Ok docs
    → (rest : List Doc) × (hops_from (document_of h.form h.version (keep h.version c a_bill)) h.version hs ≡ Ok rest) × (document_of h.form h.version (keep h.version c a_bill) ∷ rest ≡ docs)
first_hop h hs x v c docs is o =
    let y : Doc = document_of h.form h.version (keep h.version c a_bill) in
    let i : (hops_from y h.version hs >>= (λ rest. Ok (y ∷ rest))) ≡ Ok docs =
    sym (ap (λ r. r >>= (λ t. hops_from (document_of h.form h.version (keep h.version t a_bill)) h.version hs >>= (λ rest. Ok (document_of h.form h.version (keep h.version t a_bill) ∷ rest)))) is) ∙ o in
    let z : (rest : List Doc) × (hops_from y h.version hs ≡ Ok rest) × (Ok (y ∷ rest) ≡ Ok docs) = bind_ok (hops_from y h.version hs) (λ rest. Ok (y ∷ rest)) docs i in
    (z.0, z.1, ok_same z.2)

spot : (b : Tree) → HasBillShape b → (g before : List Hop) (a : Hop) (g' : List Hop) (x : Doc) (v : SpecVersion) (c : Tree) (z : Doc) (docs : List Doc) → denotes x v ≡ Ok c → HasBillShape c → IsShallow c → fits_all (g ++ (a ∷ g')) c ≡ true
    → settled c a_bill ≡ settled (after_all b before) a_bill → hops_from x v (g ++ (a ∷ g')) ≡ Ok docs → IsSpot b (before ++ g) a (doc_after g docs z)
spot b ob [] before a g' x v c z docs is of s f e o =
    let p : (rest : List Doc) × (hops_from (document_of a.form a.version (keep a.version c a_bill)) a.version g' ≡ Ok rest) × (document_of a.form a.version (keep a.version c a_bill) ∷ rest ≡ docs) = first_hop a g' x v c docs is o in
    (c, sym (ap (λ ds. doc_after [] ds z) p.2), e ∙ ap (λ hs. settled (after_all b hs) a_bill) (sym (nothing_more before)))
spot b ob (h ∷ g) before a g' x v c z docs is of s f e o =
    let w : SpecVersion = h.version in
    let y : Doc = document_of h.form w (keep w c a_bill) in
    let p : (rest : List Doc) × (hops_from y w (g ++ (a ∷ g')) ≡ Ok rest) × (y ∷ rest ≡ docs) = first_hop h (g ++ (a ∷ g')) x v c docs is o in
    let q : (fits w c a_bill ≡ true) × (fits_all (g ++ (a ∷ g')) c ≡ true) = and_true (fits w c a_bill) (fits_all (g ++ (a ∷ g')) c) f in
    let n : (d : Tree) × IsNext h.form w c d = hop h.form w c of s q.0 in
    let same : settled n.0 a_bill ≡ settled (after_all b (before ++ (h ∷ []))) a_bill =
    n.1.4 ∙ (Rattle.cdx_schema.proofs.RoadAfter.taken_alike h.form (keep w c a_bill) (keep w (after_all b before) a_bill) (kept_alike w w c (after_all b before) a_bill e) ∙ ap (λ t. settled t a_bill) (after_more b before h ob)) in
    let r : IsSpot b ((before ++ (h ∷ [])) ++ g) a (doc_after g p.0 z) = spot b ob g (before ++ (h ∷ [])) a g' y w n.0 z p.0 n.1.0 n.1.1 n.1.2 (fits_all_alike (g ++ (a ∷ g')) c n.0 n.1.3 ∙ q.1) same p.1 in
    (r.0, sym (ap (λ ds. doc_after (h ∷ g) ds z) p.2) ∙ r.1, r.2 ∙ ap (λ hs. settled (after_all b hs) a_bill) (one_more before h g))

road_spot : (x : Doc) (v : SpecVersion) (g : List Hop) (a : Hop) (g' : List Hop) (docs : List Doc) → Known x v → road x v (g ++ (a ∷ g')) ≡ Ok docs → (b : Tree) × (denotes x v ≡ Ok b) × HasBillShape b × IsSpot b g a (doc_after g docs x)
road_spot x v g a g' docs (inl e) o = refuted o (road_fails (g ++ (a ∷ g')) x v e.0 e.1)
road_spot x v g a g' docs (inr k) o = choose (fits_all (g ++ (a ∷ g')) k.0)
    (λ f. (k.0, k.1, k.2, spot k.0 k.2 g [] a g' x v k.0 x docs k.1 k.2 k.3 f refl (sym (road_leads (g ++ (a ∷ g')) x v k.0 k.1 f) ∙ o)))
    (λ f. refuted o (road_lacks (g ++ (a ∷ g')) x v k.0 k.1 f))

pub roads_settle : DenotesShapes → RoadsSettle
roads_settle bills x v g g' h h' a c docs docs' o o' forms versions lows counts =
    let m : (b : Tree) × (denotes x v ≡ Ok b) × HasBillShape b × IsSpot b g a (doc_after g docs x) = road_spot x v g a g' docs (known bills x v) o in
    let n : (b : Tree) × (denotes x v ≡ Ok b) × HasBillShape b × IsSpot b h c (doc_after h docs' x) = road_spot x v h c h' docs' (known bills x v) o' in
    let b : Tree = m.0 in
    let p : (d : Tree) × (doc_after g docs x ≡ document_of a.form a.version (keep a.version d a_bill)) × (settled d a_bill ≡ settled (after_all b g) a_bill) = m.3 in
    let q : (d : Tree) × (doc_after h docs' x ≡ document_of c.form c.version (keep c.version d a_bill)) × (settled d a_bill ≡ settled (after_all n.0 h) a_bill) = n.3 in
    let one : n.0 ≡ b = ok_same (sym n.1 ∙ m.1) in
    let left : doc_after g docs x ≡ document_of c.form c.version (keep c.version p.0 a_bill) = p.1 ∙ (ap (λ f. document_of f a.version (keep a.version p.0 a_bill)) forms ∙ ap (λ w. document_of c.form w (keep w p.0 a_bill)) versions) in
    let both : IsAlike c.version (document_of c.form c.version (keep c.version p.0 a_bill)) (document_of c.form c.version (keep c.version q.0 a_bill)) =
    written_alike c.form c.version p.0 q.0 (after_all b g) (after_all b h) p.2 (q.2 ∙ ap (λ t. settled (after_all t h) a_bill) one) (same_at c.form b g h a c m.2 forms refl versions lows counts) in
    subst (λ (y : Doc). IsAlike c.version y (doc_after h docs' x)) (sym left) (subst (λ (y : Doc). IsAlike c.version (document_of c.form c.version (keep c.version p.0 a_bill)) y) (sym q.1) both)
