use Rattle.cdx_bom.proofs.RoadLaws.{parts_join, first_misses, second_misses, no_third}
use Rattle.cdx_bom.proofs.laws.roads_join.Goals as goal

pub returns-clause-whole : goal.returns-clause-whole
returns-clause-whole c = λ x y v hops rest docs more is a b. parts_join v hops rest x y is docs more a b

pub returns-clause-first : goal.returns-clause-first
returns-clause-first c = λ x y v hops rest is m. first_misses v hops rest x y is m

pub returns-clause-second : goal.returns-clause-second
returns-clause-second c = λ x y v hops rest docs is a. second_misses v hops rest x y is docs a

pub returns-clause-only : goal.returns-clause-only
returns-clause-only c = λ x y v hops rest e is m a h. no_third v hops rest x y is e m a h
