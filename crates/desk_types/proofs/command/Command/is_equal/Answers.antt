use Rattle.std.proofs.Common.{rules, ◌≡◌, ◌&&◌, Bool, List, ℕ, ℤ, Option, int_eq, nat_eq}
use Rattle.std.proofs.lemmas.Bool.Decides.{Decides-eqb, Decides-int_eq}
use Rattle.std.specs.Bool.{Decides}
use Rattle.std.specs.Cmp.Lexicographic.{pointwise, bytes_decides}
use Rattle.std.specs.Option.{option_eq}
use Rattle.desk_types.specs.contracts.command.Command.{enum}
use Rattle.desk_types.specs.contracts.show.Status.{the_type}
use denote.Enum.Bare.{sameb, same_true, true_same}
use Rattle.desk_types.proofs.Equality.{enum_decides, field_decides, last_decides, option_decides}
use Rattle.desk_types.proofs.command.Command.is_equal.Goals as goal

-- the last field of a command: a text, a text that may be absent, a status, a token

last_text : (x y : List ℕ × Unit {0}) → Decides (pointwise nat_eq x.0 y.0) (x ≡ y)
last_text = last_decides (pointwise nat_eq) bytes_decides

last_option : (x y : Option (List ℕ) × Unit {0}) → Decides (option_eq (pointwise nat_eq) x.0 y.0) (x ≡ y)
last_option = last_decides (option_eq (pointwise nat_eq)) (option_decides (pointwise nat_eq) bytes_decides)

last_status : (x y : the_type.D × Unit {0}) → Decides (sameb the_type x.0 y.0) (x ≡ y)
last_status = last_decides (sameb the_type) (λ a b. (same_true the_type (search rules) a b, true_same the_type a b))

last_number : (x y : ℕ × Unit {0}) → Decides (nat_eq x.0 y.0) (x ≡ y)
last_number = last_decides nat_eq Decides-eqb

-- a field before others: the time, a text, a text that may be absent, the number of a node

module _ {B : Type 0} (F : B → B → Bool) (others : (a b : B) → Decides (F a b) (a ≡ b)) where
  time_and : (x y : ℤ × B) → Decides (int_eq x.0 y.0 && F x.1 y.1) (x ≡ y)
  time_and = field_decides int_eq Decides-int_eq F others

  text_and : (x y : List ℕ × B) → Decides (pointwise nat_eq x.0 y.0 && F x.1 y.1) (x ≡ y)
  text_and = field_decides (pointwise nat_eq) bytes_decides F others

  option_and : (x y : Option (List ℕ) × B) → Decides (option_eq (pointwise nat_eq) x.0 y.0 && F x.1 y.1) (x ≡ y)
  option_and = field_decides (option_eq (pointwise nat_eq)) (option_decides (pointwise nat_eq) bytes_decides) F others

  number_and : (x y : ℕ × B) → Decides (nat_eq x.0 y.0 && F x.1 y.1) (x ≡ y)
  number_and = field_decides nat_eq Decides-eqb F others

-- the commands in their order, by how many texts stand after the time
pub returns : goal.returns
returns c =
    let one = time_and _ last_text in
    let two = time_and _ (text_and _ last_text) in
    let four = time_and _ (text_and _ (text_and _ (text_and _ last_text))) in
    let opened = time_and _ (text_and _ (text_and _ (option_and _ last_option))) in
    let set = time_and _ (text_and _ last_status) in
    let replaced = time_and _ (number_and _ last_number) in
    enum_decides enum _ c.args.self.now c.args.other.now c.eq.result c.eq.ensures (
      opened,
      (
        two,
        (
          two,
          (
            two,
            (
              two,
              (
                four,
                (
                  one,
                  (
                    one,
                    (
                      two,
                      (
                        one,
                        (
                          one,
                          (
                            two,
                            (
                              set,
                              (
                                one,
                                (two, (one, (replaced, tt))),
                              ),
                            ),
                          ),
                        ),
                      ),
                    ),
                  ),
                ),
              ),
            ),
          ),
        ),
      ),
    )
