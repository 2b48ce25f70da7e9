use Rattle.std.proofs.Common.{◌≤◌, sym, subst, ◌∙◌, arith, ◌⊎◌, inl, inr}
use Rattle.desk_types.specs.declared.limits.TheConstants.{BODY_BYTES}
use Rattle.desk_codec.specs.Spelling.{SpellsBody}
use Rattle.desk_codec.proofs.Entries.{entry_found, head_lacks, head_small, none_whole, other_whole}
use Rattle.desk_codec.proofs.entry.front_entry.Goals as goal

other_of : {P Q : Type 0} → P ⊎ Q → (P → ⊥) → Q
other_of (inl p) never = absurd (never p)
other_of (inr q) never = q

pub returns-in-Err : goal.returns-in-Err
returns-in-Err c = head_lacks c.args.version c.args.bytes.now c.in-Err.lack c.in-Err.ensures

pub overflow_add-count : goal.overflow_add-count
overflow_add-count c =
    let le : c.in-Ok.head.body ≤ BODY_BYTES = head_small c.args.bytes.now c.in-Ok.head c.in-Ok.ensures in
    omega (arith, le)

pub returns-then-is_entry_in : goal.returns-then-is_entry_in
returns-then-is_entry_in c = (
  omega arith,
  entry_found c.args.bytes.now c.in-Ok.head c.in-Ok-get_body.command (λ i. omega (arith, c.type_inv.bytes i))
      c.in-Ok.ensures (omega arith)
      (subst (SpellsBody c.in-Ok-get_body.command) c.body_in.ensures c.in-Ok-get_body.ensures.found),
  sym c.if-is_entry_in.ensures,
)

pub returns-else-is_entry_in : goal.returns-else-is_entry_in
returns-else-is_entry_in c =
    other_whole c.args.version c.args.bytes.now c.in-Ok.head
    (record { client = c.in-Ok.head.client; number = c.in-Ok.head.number; command = c.in-Ok-get_body.command })
    c.in-Ok.ensures (omega arith)
    (subst (SpellsBody c.in-Ok-get_body.command) c.body_in.ensures c.in-Ok-get_body.ensures.found)
    (sym c.if-is_entry_in.ensures)

pub returns-in_ok-unless_of_memory-in-Err-get_body : goal.returns-in_ok-unless_of_memory-in-Err-get_body
returns-in_ok-unless_of_memory-in-Err-get_body c =
    let none = other_of c.in-Err-get_body.ensures.refused
    (λ want. c.in_ok-unless_of_memory-in-Err-get_body.ensures.ok.1
    (c.in_ok-unless_of_memory-in-Err-get_body.ensures.ok.0 ∙ want)) in
    none_whole c.args.version c.args.bytes.now c.in-Ok.head c.in-Ok.ensures (omega arith)
    (λ command spells. none.1 command (subst (SpellsBody command) (sym c.body_in.ensures) spells))
