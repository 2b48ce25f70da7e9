use Rattle.std.proofs.Common.{◌≡◌, ◌≤◌, ◌<◌, ◌+◌, length, take, Some, IfSome, rules, sym, subst, ap, ◌∙◌}
use Rattle.std.specs.Io.KnownBytes.{Appends}
use Rattle.desk_records.specs.declared.record.TheConstants.{RECORD_BYTES}
use Rattle.desk_records.specs.Records.{record_bytes}
use Rattle.desk_records.specs.Streams.{IsRun}
use Rattle.desk_records.proofs.Sealing.{IsSealed, sealed_more, sealed_cut, sealing_after}
use Rattle.desk_records.proofs.sealed.SealedWrite.write.Goals as goal

pub invariant_of-self-in-Ok : goal.invariant_of-self-in-Ok
invariant_of-self-in-Ok g c =
    let self = c.args.self.now in
    let contents = g.W.Write.contents in
    let block = self.key.block.value in
    let first = contents self.first.value in
    let now = contents self.inner in
    let new = contents c.write_all.new.writer in
    let count = c.in-Some.count in
    let payload = take c.min-taken.result c.args.buf.now in
    let all : IsRun block first now (Some count) = subst (IsRun block first now) c.in-Some.is self.run in
    let least : 1 ≤ length payload = search rules in
    let most : length payload ≤ RECORD_BYTES = search rules in
    let written : Appends now new (record_bytes block count payload) =
    subst (Appends now new) (c.as_slice.ensures.value ∙ c.in_ok-seal.ensures) c.in-Ok.ensures.ok in
    let more = sealed_more block first now new count payload all.0 all.1 all.2 least most written in
    let next : IfSome c.checked_add-self.result (λ n. n ≡ count + 1) = search rules in
    record { run = sealing_after block first now new count payload c.checked_add-self.result next more }

pub returns-in-Ok-clause-bytes : goal.returns-in-Ok-clause-bytes
returns-in-Ok-clause-bytes g c =
    let self = c.args.self.now in
    let contents = g.W.Write.contents in
    let block = self.key.block.value in
    let first = contents self.first.value in
    let now = contents self.inner in
    let new = contents c.write_all.new.writer in
    let count = c.in-Some.count in
    let payload = take c.min-taken.result c.args.buf.now in
    let all : IsRun block first now (Some count) = subst (IsRun block first now) c.in-Some.is self.run in
    let least : 1 ≤ length payload = search rules in
    let most : length payload ≤ RECORD_BYTES = search rules in
    let written : Appends now new (record_bytes block count payload) =
    subst (Appends now new) (c.as_slice.ensures.value ∙ c.in_ok-seal.ensures) c.in-Ok.ensures.ok in
    (sealed_more block first now new count payload all.0 all.1 all.2 least most written).bytes

pub returns-in-Err-clause-bytes : goal.returns-in-Err-clause-bytes
returns-in-Err-clause-bytes g c =
    let self = c.args.self.now in
    let contents = g.W.Write.contents in
    let block = self.key.block.value in
    let first = contents self.first.value in
    let now = contents self.inner in
    let new = contents c.write_all.new.writer in
    let count = c.in-Some.count in
    let payload = take c.min-taken.result c.args.buf.now in
    let sent = c.in-Err.field-0 in
    let all : IsRun block first now (Some count) = subst (IsRun block first now) c.in-Some.is self.run in
    let most : length payload ≤ RECORD_BYTES = search rules in
    let bytes = c.as_slice.ensures.value ∙ c.in_ok-seal.ensures in
    let cut : sent < length (record_bytes block count payload) =
    subst (λ l. sent < length l) bytes c.in-Err.ensures.sent in
    let begun : Appends now new (take sent (record_bytes block count payload)) =
    subst (λ l. Appends now new (take sent l)) bytes c.in-Err.ensures.prefix in
    sealed_cut block first now new count payload sent all.0 all.1 all.2 most cut begun
