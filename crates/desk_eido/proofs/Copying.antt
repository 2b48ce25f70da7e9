-- What a copy ensures, told by the push of the node that ends it, or by the part that did not fit.
use Rattle.std.proofs.Common.{◌≡◌, ◌+◌, ◌<◌, ℕ, true, false, length, Result, Ok, Err, arith, sym, ap, subst, ◌∙◌}
use Rattle.std.proofs.lemmas.Bool.{false≢true}
use Rattle.std.specs.Prelude.{◌↔◌, IfOk, OnOk, OnErr, IsErr}
use Rattle.serde_json.specs.Data.{Data}
use Rattle.desk_arena.specs.Contents.{Contents, IsWithinCapacity, room, with_node}
use Rattle.desk_arena.specs.declared.node.Node.{Node}
use Rattle.desk_arena.specs.declared.node.NodeId.{NodeId}
use Rattle.desk_arena.specs.declared.node.TheConstants.{NODE_BYTES}
use Rattle.desk_arena.specs.declared.text.Text.{Text}
use Rattle.desk_eido.specs.Copied.{IsPartOf, with_copy}
use Rattle.desk_eido.specs.Names.{HasDistinctNames}
use Rattle.desk_eido.specs.Room.{room_of}
use Rattle.desk_eido.specs.Utf8.{HasUtf8Texts}
use Rattle.desk_eido.proofs.Begun.{IsBetween}
use Rattle.desk_eido.proofs.Growing.{IsPartOf-trans, IsPartOf-with_node}

module _ {E : Type 0} where
  -- what the push of a node ensures
  abbrev pub IsPushed : Result NodeId E → Contents → Contents → Node → Type 0
  IsPushed r b new node = record {
    last : IfOk r (λ id. id.index + 1 ≡ length new.nodes);
    pushed : OnOk r (new ≡ with_node b node);
    taken : OnOk r (room new + NODE_BYTES ≡ room b);
    full : IsErr r ↔ (room b < NODE_BYTES);
    err : OnErr r (new ≡ b);
    capacity : new.capacity ≡ b.capacity;
    within : IsWithinCapacity new;
  }

  -- what the copy of a value ensures
  abbrev pub IsCopyOf : Result NodeId E → Data → Text → Contents → Contents → Type 0
  IsCopyOf r d name a new = record {
    last : IfOk r (λ id. id.index + 1 ≡ length new.nodes);
    copied : OnOk r (new ≡ with_copy d name a);
    taken : OnOk r (room new + room_of d ≡ room a);
    utf8 : OnOk r (HasUtf8Texts d);
    names : OnOk r (HasDistinctNames d);
    full : IsErr r ↔ (room a < room_of d);
    begun : OnErr r (IsPartOf a new × IsPartOf new (with_copy d name a));
    capacity : new.capacity ≡ a.capacity;
    within : IsWithinCapacity new;
  }

-- the room of a whole that is taken in two parts
both_taken : (new between old first second both : ℕ) → new + second ≡ between → between + first ≡ old →
    both ≡ first + second → new + both ≡ old
both_taken new between old first second both e f g = omega arith

-- the second part does not fit where the whole does not, and the whole where the second does not
second_full : (between old first second both : ℕ) → between + first ≡ old → both ≡ first + second →
    (between < second) ↔ (old < both)
second_full between old first second both e f = (λ h. omega arith, λ h. omega arith)

module _ {E : Type 0} (d : Data) (name : Text) (a b new : Contents) (node : Node) (size : ℕ)
    (whole : with_copy d name a ≡ with_node b node) (preserved : IsPartOf a b) (left : room b + size ≡ room a)
    (takes : room_of d ≡ size + NODE_BYTES) (utf8 : HasUtf8Texts d) (names : HasDistinctNames d)
    (capacity : b.capacity ≡ a.capacity) where
  -- a copy that ends with a node, after what is inside it
  ended : (r : Result NodeId E) → IsPushed r b new node → IsCopyOf r d name a new
  ended (Ok id) p =
      let fits = second_full (room b) (room a) size NODE_BYTES (room_of d) left takes in
      record {
        last = p.last;
        copied = p.pushed ∙ sym whole;
        taken = both_taken (room new) (room b) (room a) size NODE_BYTES (room_of d) p.taken left takes;
        utf8 = utf8;
        names = names;
        full = (λ h. fits.0 (p.full.0 h), λ h. p.full.1 (fits.1 h));
        begun = tt;
        capacity = p.capacity ∙ capacity;
        within = p.within;
      }
  ended (Err e) p =
      let fits = second_full (room b) (room a) size NODE_BYTES (room_of d) left takes in
      record {
        last = tt;
        copied = tt;
        taken = tt;
        utf8 = tt;
        names = tt;
        full = (λ h. fits.0 (p.full.0 h), λ h. p.full.1 (fits.1 h));
        begun = (
          subst (IsPartOf a) (sym p.err) preserved,
          subst (λ z. IsPartOf z (with_copy d name a)) (sym p.err)
              (subst (IsPartOf b) (sym whole) (IsPartOf-with_node b node)),
        );
        capacity = p.capacity ∙ capacity;
        within = p.within;
      }

-- the same of a value that is known, with a node that tells where what is inside it begins
pub ended_by : {E : Type 0} (r : Result NodeId E) (d v : Data) (name : Text) (a inside b new : Contents) (node : Node)
    (made : ℕ → Node) (start size : ℕ) → IsPushed r b new node → node ≡ made start → start ≡ length a.nodes → d ≡ v →
    with_copy v name a ≡ with_node inside (made (length a.nodes)) → b ≡ inside → IsPartOf a inside →
    room b + size ≡ room a → room_of v ≡ size + NODE_BYTES → HasUtf8Texts v → HasDistinctNames v →
    b.capacity ≡ a.capacity → IsCopyOf r d name a new
ended_by r d v name a inside b new node made start size p node_is start_is is whole b_is preserved left takes utf8 names
    capacity =
    subst (λ w. IsCopyOf r w name a new) (sym is) (ended v name a b new node size
    (whole ∙ ap (with_node inside) (sym (node_is ∙ ap made start_is)) ∙ ap (λ z. with_node z node) (sym b_is))
    (subst (IsPartOf a) (sym b_is) preserved) left takes utf8 names capacity r p)

-- a copy of which a part did not fit
refused : {E : Type 0} (r : Result NodeId E) (d : Data) (name : Text) (a inside new : Contents) → IsErr r →
    IsBetween a new inside → IsPartOf inside (with_copy d name a) → room a < room_of d →
    new.capacity ≡ a.capacity → IsWithinCapacity new → IsCopyOf r d name a new
refused (Ok id) d name a inside new is h more full capacity within = absurd (cc)
refused (Err e) d name a inside new is h more full capacity within = record {
  last = tt;
  copied = tt;
  taken = tt;
  utf8 = tt;
  names = tt;
  full = (λ k. full, λ k. is);
  begun = (h.0, IsPartOf-trans new inside (with_copy d name a) h.1 more);
  capacity = capacity;
  within = within;
}

-- the same of a value that is known, whose part does not fit alone
pub refused_by : {E : Type 0} (r : Result NodeId E) (d v : Data) (name : Text) (a inside new : Contents) (size : ℕ) →
    IsErr r → d ≡ v → IsBetween a new inside → IsPartOf inside (with_copy v name a) → room a < size →
    room_of v ≡ size + NODE_BYTES → new.capacity ≡ a.capacity → IsWithinCapacity new → IsCopyOf r d name a new
refused_by r d v name a inside new size is same h more full takes capacity within =
    subst (λ w. IsCopyOf r w name a new) (sym same)
    (refused r v name a inside new is h more (longer (room a) size NODE_BYTES (room_of v) full takes) capacity within)
  where
    longer : (n size more both : ℕ) → n < size → both ≡ size + more → n < both
    longer n size more both h e = omega arith

module _ {E : Type 0} where
  -- what the copy of a list's items ensures, of the whole and of the room that it takes
  abbrev pub IsListCopy : Result (Unit {0}) E → Contents → ℕ → Type 0 → Contents → Contents → Type 0
  IsListCopy r whole takes utf8 a new = record {
    copied : OnOk r (new ≡ whole);
    taken : OnOk r (room new + takes ≡ room a);
    utf8 : OnOk r utf8;
    full : IsErr r ↔ (room a < takes);
    begun : OnErr r (IsPartOf a new × IsPartOf new whole);
    capacity : new.capacity ≡ a.capacity;
    within : OnErr r (IsWithinCapacity new);
  }

  -- what the copy of an object's members ensures
  abbrev pub IsObjectCopy : Result (Unit {0}) E → Contents → ℕ → Type 0 → Type 0 → Contents → Contents → Type 0
  IsObjectCopy r whole takes utf8 names a new = record {
    copied : OnOk r (new ≡ whole);
    taken : OnOk r (room new + takes ≡ room a);
    utf8 : OnOk r utf8;
    names : OnOk r names;
    full : IsErr r ↔ (room a < takes);
    begun : OnErr r (IsPartOf a new × IsPartOf new whole);
    capacity : new.capacity ≡ a.capacity;
    within : OnErr r (IsWithinCapacity new);
  }

-- where nothing is left, no more is taken than there was
pub not_full : (new old left all : ℕ) → left ≡ 0 → old + left ≡ new + all →
    (new + all ≡ old) × ((false ≡ true) ↔ (old < all))
not_full new old left all e f = (omega arith, (λ h. absurd (false≢true h), λ h. absurd (omega arith)))

module _ {E : Type 0} (whole a new : Contents) (takes : ℕ) (utf8 : Type 0) (full : room a < takes)
    (capacity : new.capacity ≡ a.capacity) (within : IsWithinCapacity new) where
  -- items of which one did not fit
  pub list_refused : (r : Result (Unit {0}) E) → IsErr r → OnErr r (IsBetween a new whole) →
      IsListCopy r whole takes utf8 a new
  list_refused (Ok x) is h = absurd (cc)
  list_refused (Err e) is h = record {
    copied = tt;
    taken = tt;
    utf8 = tt;
    full = (λ k. full, λ k. is);
    begun = h;
    capacity = capacity;
    within = within;
  }

  -- members of which one did not fit
  pub object_refused : (names : Type 0) (r : Result (Unit {0}) E) → IsErr r → OnErr r (IsBetween a new whole) →
      IsObjectCopy r whole takes utf8 names a new
  object_refused names (Ok x) is h = absurd (cc)
  object_refused names (Err e) is h = record {
    copied = tt;
    taken = tt;
    utf8 = tt;
    names = tt;
    full = (λ k. full, λ k. is);
    begun = h;
    capacity = capacity;
    within = within;
  }

-- a part that does not fit after what was taken is more than there was
pub part_full : (old between left all part rest : ℕ) → old + left ≡ between + all → left ≡ part + rest →
    between < part → old < all
part_full old between left all part rest e f g = omega arith
