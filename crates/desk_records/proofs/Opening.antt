-- What a reader of records will give.
use Rattle.std.proofs.Common.{◌≡◌, ◌≤◌, ℕ, suc, ◌+◌, ◌-◌, true, List, [], ◌++◌, length, take, drop, slice_range}
use Rattle.std.proofs.Common.{Option, None, Some, refl, sym, ap, subst, ◌∙◌, append_assoc, arith}
use Rattle.std.proofs.lemmas.List.{length-take, drop_all, drop-take, take-take, drop-drop}
use Rattle.std.proofs.Math.Seq.{take-add}
use Rattle.std.specs.Int.{w32, from_be_bytes}
use Rattle.std.specs.Io.KnownBytes.{Keeps, Consumes, IsAtEnd, prepend_known}
use Rattle.desk_key.specs.declared.hmac.TheConstants.{TAG_BYTES}
use Rattle.desk_records.specs.declared.record.TheConstants.{LENGTH_BYTES, OTHER_BYTES}
use Rattle.desk_records.specs.Records.{is_right, payload_length, payload_of, after_record, record_run}
use Rattle.desk_records.specs.Records.{RecordRun}
use Rattle.desk_records.specs.Streams.{opened_bytes, IsHeldRecord}
use Rattle.desk_records.proofs.RunSteps.{run_more, run_nil}

-- what was read is held
pub opened_preserved : (block : List ℕ) (count : ℕ) (given held held' : List ℕ) (a b : Option (List ℕ)) →
    Keeps (prepend_known held a) (prepend_known held' b) →
    Keeps (opened_bytes block count given held a) (opened_bytes block count given held' b)
opened_preserved block count given held held' None b k = tt
opened_preserved block count given held held' (Some x) None k = absurd k
opened_preserved block count given held held' (Some x) (Some y) k =
    ap (λ l. given ++ (record_run block count l).given) k

-- a right record is opened
pub opened_right : (block : List ℕ) (count : ℕ) (held : List ℕ) (a : Option (List ℕ)) →
    is_right block count held ≡ true → after_record held ≡ [] →
    opened_bytes block count [] held a ≡ opened_bytes block (suc count) (payload_of held) [] a
opened_right block count held None right none = refl
opened_right block count held (Some x) right none =
    ap (λ (r : RecordRun). Some r.given) (run_more block count held x right)
    ∙ ap (λ l. Some (payload_of held ++ (record_run block (suc count) (l ++ x)).given)) none

-- a part of what it carries is given
pub opened_given : (block : List ℕ) (count : ℕ) (front rest held : List ℕ) (a : Option (List ℕ)) →
    Consumes (opened_bytes block count (front ++ rest) held a) (opened_bytes block count rest held a) front
opened_given block count front rest held None = tt
opened_given block count front rest held (Some x) = append_assoc front rest (record_run block count (held ++ x)).given

-- the end between two records is the end
pub opened_end : (block : List ℕ) (count : ℕ) (a : Option (List ℕ)) → IsAtEnd a →
    IsAtEnd (opened_bytes block count [] [] a)
opened_end block count None e = tt
opened_end block count (Some x) e =
    ap (λ l. (record_run block count l).given) e ∙ ap (λ (r : RecordRun). r.given) (run_nil block count)

-- ---- a room that is filled

-- what was read after what is held is held too
pub held_more : (p a b : Option (List ℕ)) (front more : List ℕ) → Keeps p (prepend_known front a) → Consumes a b more →
    Keeps p (prepend_known (front ++ more) b)
held_more None a b front more k c = tt
held_more (Some x) None b front more k c = absurd k
held_more (Some x) (Some y) None front more k c = absurd c
held_more (Some x) (Some y) (Some z) front more k c = append_assoc front more z ∙ ap (λ l. front ++ l) (sym c) ∙ k

-- a read that failed took nothing
pub held_preserved : (p a b : Option (List ℕ)) (front : List ℕ) → Keeps p (prepend_known front a) → Keeps a b →
    Keeps p (prepend_known front b)
held_preserved None a b front k c = tt
held_preserved (Some x) None b front k c = absurd k
held_preserved (Some x) (Some y) None front k c = absurd c
held_preserved (Some x) (Some y) (Some z) front k c = ap (λ l. front ++ l) c ∙ k

-- ---- the record that a room holds

-- its length, what it carries, and that nothing stands after it
pub record HasRecord (carried held : ℕ) (room : List ℕ) : Type 0 where
  pub payload : payload_of (take held room) ≡ slice_range room LENGTH_BYTES (LENGTH_BYTES + carried)
  pub after : after_record (take held room) ≡ []

pub held_record : (carried held : ℕ) (room : List ℕ) → IsHeldRecord carried held room → HasRecord carried held room
held_record carried held room h =
    let is : held ≡ carried + OTHER_BYTES = h.held_is in
    let announced : payload_length (take held room) ≡ carried =
    ap (from_be_bytes w32) (take-take LENGTH_BYTES held room (omega arith)) ∙ h.carried_is in
    let split : held ≡ LENGTH_BYTES + (carried + TAG_BYTES) = omega arith in
    let same : carried ≡ (LENGTH_BYTES + carried) - LENGTH_BYTES = omega arith in
    let short = length-take held room in
    record {
      payload = ap (λ n. take n (drop LENGTH_BYTES (take held room))) announced
          ∙ ap (λ n. take carried (drop LENGTH_BYTES (take n room))) split
          ∙ ap (take carried) (drop-take LENGTH_BYTES (carried + TAG_BYTES) room)
          ∙ take-take carried (carried + TAG_BYTES) (drop LENGTH_BYTES room) (omega arith)
          ∙ ap (λ n. take n (drop LENGTH_BYTES room)) same;
      after = ap (λ n. drop (n + OTHER_BYTES) (take held room)) announced
          ∙ drop_all (carried + OTHER_BYTES) (take held room) (omega arith);
    }

-- nothing is left of a record
pub none_left : (room : List ℕ) (from until : ℕ) → from ≡ until → slice_range room from until ≡ []
none_left room from until e =
    let none : until - from ≡ 0 = omega arith in
    ap (λ n. take n (drop from room)) none

-- the record that is held was opened
pub record_opened : (block : List ℕ) (count next carried held : ℕ) (room : List ℕ) (a : Option (List ℕ)) →
    IsHeldRecord carried held room → next ≡ count + 1 → is_right block count (take held room) ≡ true →
    opened_bytes block count [] (take held room) a
    ≡ opened_bytes block next (slice_range room LENGTH_BYTES (LENGTH_BYTES + carried)) [] a
record_opened block count next carried held room a h more right =
    let has = held_record carried held room h in
    let next_is : suc count ≡ next = omega arith in
    opened_right block count (take held room) a right has.after
    ∙ ap (λ l. opened_bytes block (suc count) l [] a) has.payload
    ∙ ap (λ n. opened_bytes block n (slice_range room LENGTH_BYTES (LENGTH_BYTES + carried)) [] a) next_is

-- nothing was left, and what was read is held
pub left_preserved : (block : List ℕ) (count : ℕ) (given given' held held' : List ℕ) (a b : Option (List ℕ)) →
    given ≡ [] →
    given' ≡ [] → Keeps (prepend_known held a) (prepend_known held' b) →
    Keeps (opened_bytes block count given held a) (opened_bytes block count given' held' b)
left_preserved block count given given' held held' a b e e' k =
    subst (λ l. Keeps (opened_bytes block count l held a) (opened_bytes block count given' held' b)) (sym e)
    (subst (λ l. Keeps (opened_bytes block count [] held a) (opened_bytes block count l held' b)) (sym e')
    (opened_preserved block count [] held held' a b k))

-- a part of what is left is given
pub part_given : (block : List ℕ) (count : ℕ) (room : List ℕ) (from until k : ℕ) (held : List ℕ) (a : Option (List ℕ)) →
    from + k ≤ until →
    Consumes (opened_bytes block count (slice_range room from until) held a)
    (opened_bytes block count (slice_range room (from + k) until) held a) (slice_range room from (from + k))
part_given block count room from until k held a within =
    let rest = slice_range room (from + k) until in
    let front = slice_range room from (from + k) in
    let all : until - from ≡ k + (until - (from + k)) = omega arith in
    let first : k ≡ (from + k) - from = omega arith in
    let split : slice_range room from until ≡ slice_range room from (from + k) ++ slice_range room (from + k) until =
    ap (λ n. take n (drop from room)) all
    ∙ take-add k (until - (from + k)) (drop from room)
    ∙ ap (λ n. take n (drop from room) ++ take (until - (from + k)) (drop k (drop from room))) first
    ∙ ap (λ l. front ++ take (until - (from + k)) l) (drop-drop k from room) in
    subst (λ l. Consumes (opened_bytes block count l held a) (opened_bytes block count rest held a) front) (sym split)
    (opened_given block count front rest held a)

-- nothing is left and nothing is held at the end
pub end_left : (block : List ℕ) (count : ℕ) (room : List ℕ) (from until held : ℕ) (a : Option (List ℕ)) → from ≡ until →
    held ≡ 0 → IsAtEnd a → IsAtEnd (opened_bytes block count (slice_range room from until) (take held room) a)
end_left block count room from until held a e none end =
    subst (λ l. IsAtEnd (opened_bytes block count l (take held room) a)) (sym (none_left room from until e))
    (subst (λ n. IsAtEnd (opened_bytes block count [] (take n room) a)) (sym none) (opened_end block count a end))
