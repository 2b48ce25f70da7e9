use Rattle.std.proofs.Common.{◌≡◌, ◌∙◌, ◌≤◌, ◌<◌, ℕ, zero, suc, List, [], ◌∷◌, length, take, Option, Err}
use Rattle.std.proofs.Common.{nat_lt, refl, sym, ap, subst, arith}
use Rattle.std.proofs.lemmas.Bool.{lt-ltb}
use Rattle.std.proofs.lemmas.List.{with_items_is}
use Rattle.std.specs.Io.KnownBytes.{Consumes, IsAtEnd}
use Rattle.std.specs.Vec.{with_items}
use Rattle.desk_frames.specs.Reading.{IsRead, ReaderState}
use Rattle.desk_frames.specs.Stream.{Standing}
use Rattle.desk_frames.proofs.reader.FrameReader.read_piece.Goals as goal

-- the first bytes of a room are what was read; none are at the end alone
is_read : (left rest : Option (List ℕ)) (n : ℕ) (room : List ℕ) → Consumes left rest (take n room) →
    n ≤ length room → (n ≡ 0 → IsAtEnd rest) → IsRead left rest (take n room) (nat_lt 0 n)
is_read left rest zero room c w e = (refl, c, e refl)
is_read left rest (suc n) [] c w e = absurd (omega arith)
is_read left rest (suc n) (x ∷ room) c w e =
    subst (λ b. IsRead left rest (take (suc n) (x ∷ room)) b) (sym (lt-ltb 0 (suc n) (omega arith))) (λ h. cc, c)

-- Where no bytes of one room wait, none of another do.
unread : (n : ℕ) (xs ys : List ℕ) → n ≤ length xs → take n xs ≡ [] → take n ys ≡ []
unread zero xs ys w e = refl
unread (suc n) [] ys w e = absurd (omega arith)
unread (suc n) (x ∷ xs) ys w e = absurd (cc)

-- a reader's state, by its parts
abbrev state_of : Standing → List ℕ → ℕ → ReaderState
state_of s waiting reads = record { standing = s; waiting = waiting; reads = reads }

same_state : (s : Standing) (v w : List ℕ) (m n : ℕ) → v ≡ w → m ≡ n → state_of s v m ≡ state_of s w n
same_state s v w m n e f = rw (e, f) refl

below : (m n : ℕ) → m < n → m ≡ n → ⊥
below m n h e = omega arith

pub invariant_of-self : goal.invariant_of-self
invariant_of-self g c =
    let room = c.self.inside.room in let new = c.read_piece.new.room in
    let e = with_items_is room new (c.read_piece.ensures.same_room ∙ c.as_mut_slice.ensures.len) in (
      subst (λ (xs : List ℕ). c.in-Ok.count ≤ length xs) (sym e) c.in-Ok.ensures.within,
      subst (λ (n : ℕ). 0 < n) (sym room.ok.0 ∙ (with_items room new).ok.0) c.self.invariant.1,
    )

pub invariant_of-self-in-Err : goal.invariant_of-self-in-Err
invariant_of-self-in-Err g c =
    let room = c.self.inside.room in let new = c.read_piece.new.room in
    let same = sym room.ok.0 ∙ (with_items room new).ok.0 in (
      subst (λ (n : ℕ). c.self.inside.waiting ≤ n) same c.self.invariant.0,
      subst (λ (n : ℕ). 0 < n) same c.self.invariant.1,
    )

pub returns-in-Ok-clause-ok : goal.returns-in-Ok-clause-ok
returns-in-Ok-clause-ok g c =
    let room = c.self.inside.room in let new = c.read_piece.new.room in
    let e = with_items_is room new (c.read_piece.ensures.same_room ∙ c.as_mut_slice.ensures.len) in
    let left = g.R.Read.remaining c.args.source.now in let rest = g.R.Read.remaining c.read_piece.new.source in
    subst (λ (xs : List ℕ). IsRead left rest (take c.in-Ok.count xs) (nat_lt 0 c.in-Ok.count)) (sym e)
    (is_read left rest c.in-Ok.count new c.in-Ok.ensures.bytes c.in-Ok.ensures.within c.in-Ok.ensures.end)

pub returns-in-Ok-clause-limit : goal.returns-in-Ok-clause-limit
returns-in-Ok-clause-limit g c h =
    absurd (below _ _ c.in-Ok.ensures.most (ap (λ (v : ReaderState). v.reads) c.self.view_is ∙ h))

pub returns-in-Err-clause-err : goal.returns-in-Err-clause-err
returns-in-Err-clause-err g c = (
  c.in-Err.ensures.fault,
  unread c.self.inside.waiting c.self.inside.room.items _ c.self.invariant.0
      (ap (λ (v : ReaderState). v.waiting) c.self.view_is ∙ c.requires.nothing),
  c.in-Err.ensures.preserved,
)

pub returns-in-Err-clause-limit : goal.returns-in-Err-clause-limit
returns-in-Err-clause-limit g c h =
    let waiting : take c.self.inside.waiting c.self.inside.room.items ≡ [] =
    ap (λ (v : ReaderState). v.waiting) c.self.view_is ∙ c.requires.nothing in (
      ap Err c.in-Err.ensures.fault,
      same_state c.self.inside.cutter _ _ _ _
          (unread c.self.inside.waiting c.self.inside.room.items _ c.self.invariant.0 waiting ∙ sym waiting)
          (c.in-Err.ensures.limit (ap (λ (v : ReaderState). v.reads) c.self.view_is ∙ h)) ∙ c.self.view_is,
    )
