use Rattle.std.proofs.Common.{Ok, refl, sym, ap}
use Rattle.std.proofs.lemmas.Result.{err_from_is_err_and}
use Rattle.cdx_models.specs.Trees.{one, absent}
use Rattle.cdx_leaf.specs.Trees.{collected}
use Rattle.cdx_leaf.specs.Listing.{listing_plan}
use Rattle.cdx_leaf.proofs.lists.read_items.Goals as goal

pub returns-in_err-listing : goal.returns-in_err-listing
returns-in_err-listing g c = λ d p nodes rest st.
    let q = err_from_is_err_and c.from_residual.result c.from_residual.ensures.1 in
    let plan = listing_plan c.args.rule c.args.inner.now g.X.Kinded.kind in
    rw (q.1, q.2) (c.in_err-listing.ensures d g.X.FromXml.depth plan (Ok (one absent)) p nodes rest st (ap (λ l. Ok (one (collected g.X.HasTree.tree l))) (sym c.new.ensures), refl, refl))

pub returns : goal.returns
returns g c = λ d p nodes rest st.
    let plan = listing_plan c.args.rule c.args.inner.now g.X.Kinded.kind in
    c.in_ok-listing.ensures d g.X.FromXml.depth plan (Ok (one absent)) p nodes rest st (ap (λ l. Ok (one (collected g.X.HasTree.tree l))) (sym c.new.ensures), refl, refl)
