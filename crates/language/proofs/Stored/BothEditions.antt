-- What is stored of a sheet with none of the words and marks of counted loops is answered the same in both editions, which it does
-- not name (R12.12).
use mathlib.Core.List.{List}
use mathlib.Core.Path.{refl, subst}
use Prim.Native.Nat.{ℕ, ◌≤◌}
use Rattle.language.specs.Sizes.{Sizes}
use Rattle.language.specs.Tokens.{Token}
use Rattle.language.specs.Numbers.{Refusal}
use Rattle.language.specs.Stored.{COUNT, stored}
use Rattle.language.specs.Edition.{text_in_under, stored_in_under}
use Rattle.language.proofs.Text.NothingNew.{NothingNew}
use Rattle.language.proofs.Answers.BothEditions.{Same, text_in_both}
use Rattle.language.proofs.Answers.Follow.{Follows, follows_back}
use Rattle.language.proofs.Stored.Editions.{stored_in_lawful_under}
use Rattle.language.proofs.Stored.ReadBack.{each_alone}
use Rattle.language.proofs.Stored.SameSheet.{there}

-- where a count can tell as many tokens as there may be
module _ {σ : Sizes} (told : σ.tokens ≤ COUNT) {source : List ℕ} (old : NothingNew σ source) {ts : List Token} (g : (text_in_under σ 1 source).gives ts) where
  in_one : (stored_in_under σ 1 (stored ts)).gives (each_alone ts)
  in_one = there 1 source g

  in_two : (stored_in_under σ 2 (stored ts)).gives (each_alone ts)
  in_two = there 2 source ((text_in_both old).0.gives g)

  over : {us : List Token} → (stored_in_under σ 1 (stored ts)).gives us → (stored_in_under σ 2 (stored ts)).gives us
  over {us} x =
      subst (stored_in_under σ 2 (stored ts)).gives ((stored_in_lawful_under told 1 (stored ts)).one_list (each_alone ts) us in_one x) in_two

  denied : {r : Refusal} {x : ℕ} → (stored_in_under σ 1 (stored ts)).denies r x → (stored_in_under σ 2 (stored ts)).denies r x
  denied {r} {x} d = absurd ((stored_in_lawful_under told 1 (stored ts)).never_both (each_alone ts) r x in_one d)

  forth : Follows (stored_in_under σ 1 (stored ts)) (stored_in_under σ 2 (stored ts))
  forth = record { gives = over; denies = denied; nowhere = refl; at = λ us i. refl }

  pub stored_in_both : Same (stored_in_under σ 1 (stored ts)) (stored_in_under σ 2 (stored ts))
  stored_in_both = (forth, follows_back (stored_in_lawful_under told 1 (stored ts)) (stored_in_lawful_under told 2 (stored ts)) forth)
