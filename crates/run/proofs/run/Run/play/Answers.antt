use Rattle.std.proofs.Common.{reverse, vec_items}
use Rattle.analysis.specs.Loading.{timing_of}
use Rattle.history.proofs.Promised.{run_promise, ledger_promise}
use Rattle.run.specs.Seen.{state_of}
use Rattle.run.proofs.run.Run.play.Goals as goal

pub returns-clause-answer : goal.returns-clause-answer
returns-clause-answer g c =
    let most = g.M.Medium.most in
    let seen = state_of g.M.Medium.levels in
    let b = timing_of c.args.file.now (g.F.Fabric.route c.args.fabric.now) in
    let told = c.in_ok-load.ensures in
    let begins = told.promise c.args.ledger.now in
    let made = c.play_all.ensures in
    let h = reverse (vec_items c.play_all.new.events) in
    let after = made.since b begins.since begins.lists in (
      told.answer.0,
      record {
        all = made.all;
        start = seen c.load.new.self;
        begun = told.answer.1;
        ran = made.ran;
        exact = told.exact;
        promise = record { run = run_promise most b h (seen c.play_all.new.self) after.0; ledger = ledger_promise most b h (seen c.play_all.new.self) c.play_all.new.ledger after.0 after.1 };
      },
    )
