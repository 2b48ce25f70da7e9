use Rattle.std.proofs.Common.{◌≡◌, ℕ, List, [], option_map, sym, subst}
use Rattle.desk_records.specs.Streams.{sealed_bytes, IsKnownStill, IsNextCount, IsWholeRun}
use Rattle.desk_records.proofs.Sealing.{fresh}
use Rattle.desk_records.proofs.sealed.Sealed.new.Goals as goal

pub invariant_of-result : goal.invariant_of-result
invariant_of-result g c =
    let contents = g.W.Write.contents in
    let now = contents c.args.inner in
    let block = c.args.key.block.value in
    let f = fresh block now in
    record {
      run = subst (λ w. IsKnownStill (contents w) now × IsNextCount block (contents w) now 0
          × IsWholeRun block (contents w) now) (sym c.of.ensures) (f.known, f.next, f.whole);
    }

pub returns-clause-empty : goal.returns-clause-empty
returns-clause-empty g c =
    let contents = g.W.Write.contents in
    let now = contents c.args.inner in
    let block = c.args.key.block.value in
    subst (λ w. sealed_bytes block (contents w) now ≡ option_map (λ (x : List ℕ). []) now) (sym c.of.ensures)
    (fresh block now).bytes
