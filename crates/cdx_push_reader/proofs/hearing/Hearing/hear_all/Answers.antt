use Rattle.std.proofs.Common.{◌++◌, ◌∷◌, [], take, drop, refl, sym, subst, ◌∙◌, ◌+◌}
use Rattle.std.proofs.lemmas.List.{append-nil}
use Rattle.std.proofs.lemmas.Result.{err_from_is_err_and}
use Rattle.cdx_push_reader.specs.Pushed.{Hears}
use Rattle.cdx_push_reader.proofs.Pieces.{one_more, all_more, next_place, fails_longer}
use Rattle.cdx_push_reader.proofs.hearing.Hearing.hear_all.Goals as goal

pub loop-index-init : goal.loop-index-init
loop-index-init g c = record {
  hears = λ events h p. subst (λ es. Hears g.M.RootMachine.holds g.M.RootMachine.tree c.args.self.now es) (sym (append-nil events)) h;
  version = refl;
}

pub hear-requires : goal.hear-requires
hear-requires g c =
    let q = c.requires.heard in
    let xs = c.args.piece.now in
    let i = c.loop-index.index in
    (q.0 ++ take i xs, c.loop-index.invariant.hears q.0 q.1 q.2, next_place q.0 xs c.args.first i c.loop-index-test.true q.2)

pub returns-in_err-hear-clause-hears : goal.returns-in_err-hear-clause-hears
returns-in_err-hear-clause-hears g c = λ events h p.
    let q = err_from_is_err_and c.from_residual.result c.from_residual.ensures.1 in
    let xs = c.args.piece.now in
    let i = c.loop-index.index in
    let x = c.index-piece-index.result in
    let l = c.loop-index-test.true in
    rw (q.1, q.2) (fails_longer c.loop-index.self.version c.args.self.now.version ((events ++ take i xs) ++ x ∷ []) (events ++ xs) (drop (i + 1) xs) c.in_err-hear.field-0.0 c.loop-index.invariant.version (all_more events xs i x l c.index-piece-index.is)
    (c.in_err-hear.ensures.hears (events ++ take i xs) (c.loop-index.invariant.hears events h p) (next_place events xs c.args.first i l p)))

pub loop-index-preserved : goal.loop-index-preserved
loop-index-preserved g c =
    let xs = c.args.piece.now in
    let i = c.loop-index.index in
    let x = c.index-piece-index.result in
    let l = c.loop-index-test.true in
    record {
      hears = λ events h p. subst (λ es. Hears g.M.RootMachine.holds g.M.RootMachine.tree c.hear.new.self es) (one_more events xs i x l c.index-piece-index.is)
          (c.in_ok-hear.ensures.hears (events ++ take i xs) (c.loop-index.invariant.hears events h p) (next_place events xs c.args.first i l p));
      version = c.in_ok-hear.ensures.version ∙ c.loop-index.invariant.version;
    }
