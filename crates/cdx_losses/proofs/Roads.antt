-- What counts of a road: the lowest version of its hops, and their trips through XML, counted to two.
use Rattle.std.specs.Prelude.{◌≡◌, ℕ, zero, suc, List, drop}
use Rattle.cdx_schema.specs.Trips as trips
use Rattle.cdx_schema.specs.Laws.{xml_count}
use Rattle.cdx_bom.specs.declared.doc.Hop.{Hop}
use Rattle.cdx_bom.specs.Docs.{hops_of}

-- ---- trips

-- the trips so far and those of further hops, counted to two
abbrev pub counted : ℕ → List trips.Hop → ℕ
counted zero hs = xml_count 2 hs
counted (suc zero) hs = suc (xml_count 1 hs)
counted (suc (suc n)) hs = suc (suc n)

-- So far so many were counted of the hops before this one.
abbrev pub Counts : List Hop → ℕ → ℕ → Type 0
Counts xs i n = counted n (hops_of (drop i xs)) ≡ xml_count 2 (hops_of xs)
