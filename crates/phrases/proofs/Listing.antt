-- From the answers of the parts to a list of them: the arguments of the call at token i, or the bounds of the `for` there.
use mathlib.Core.List.{List}
use mathlib.Core.Path.{◌≡◌, sym, subst, ◌∙◌}
use Rattle.std.specs.Prelude.{Ok, Err}
use Prim.Native.Nat.{ℕ, ◌+◌}
use native.Mathlib.Omega.{arith}
use Rattle.language.specs.Tokens.{Token}
use Rattle.language.specs.Trees.{Exp, Exps, last, more}
use Rattle.language.proofs.Executable.Parses.{failed, got}
use Rattle.layout.specs.Table.{put_row}
use Rattle.layout.specs.Names.{Stand}
use Rattle.layout.specs.Rows.{ARGUMENT, below, under, head, lay, lay_all}
use Rattle.phrases.specs.Parts.{Told, On, Answer, YieldsAll, Written, Topped}
use Rattle.phrases.specs.Words.{Part, tree_at}
use Rattle.phrases.proofs.Standing.{stand_lay_all}
use Rattle.phrases.proofs.Answering.{after}

module _ {T : Told Exps} {i count n f : ℕ} {w w' : List ℕ} where
  -- an answer that is known
  pub known_all : {g h : Part} → YieldsAll T i count w n f g w' → g ≡ h → YieldsAll T i count w n f h w'
  known_all a e = subst (λ (x : Part). YieldsAll T i count w n f x w') e a

  -- the same of a word that stands for it
  pub back_all : {g h : Part} → YieldsAll T i count w n f h w' → g ≡ h → YieldsAll T i count w n f g w'
  back_all a e = known_all a (sym e)

  -- where a list was read the table stands for the same tokens
  pub after_all : {r m k : ℕ} → YieldsAll T i count w n f (tree_at r m k) w' → (ts : List Token) → Stand w count ts → Stand w' count ts
  after_all a ts s = let x = a.told ts s in stand_lay_all x.args f i x.laid s

module _ {T : Told Exps} {U : Told Exp} {i count n f n₁ l₁ h₁ r m k : ℕ} {w w₁ : List ℕ}
    (a : Answer U count w n₁ f l₁ h₁ (tree_at r m k) w₁) where
  -- a list of one
  pub lists_last : {l : ℕ} {w₂ : List ℕ} {g : Part}
      → ((ts : List Token) → Stand w₁ count ts → (x : Exp) → U ts (got x m) → T ts (got (more x last) l))
      → Written k l (put_row w₁ k ARGUMENT i r 0 0) w₁ g w₂ → On n f (n + 1) (count + 1) k l (k + 1) → YieldsAll T i count w n f g w₂
  unfolding lay below head
  lists_last h x o = rw x.answer (record {
    told = λ ts s.
        let y = a.told ts s in
        let d = a.ahead in
        let e₁ : r ≡ f + below y.tree = y.top in
        let e₂ : k ≡ f + below y.tree + 1 + 0 = omega arith in
        let u₁ : w₁ ≡ lay w f y.tree = y.laid in
        let u₂ = x.laid in
        record { args = more y.tree last; told = h ts (after a ts s) y.tree y.told; top = e₂; past = omega arith; laid = cc };
    ahead = o;
    clear = x.clear ∙ a.clear;
  })

  -- one more before a list, or before none where it failed
  pub lists_more : {W : Told Exps} {n₂ : ℕ} {w₂ w₃ : List ℕ} {z : Part} (g : Part)
      → ((ts : List Token) → Stand w₁ count ts → (x : Exp) → U ts (got x m)
      → ((es : Exps) (l : ℕ) → W ts (got es l) → T ts (got (more x es) l)) × ((e : ℕ) → W ts (failed e) → T ts (failed e)))
      → YieldsAll W i count w₁ n₂ k g w₂ → Topped (λ u x y. put_row u x ARGUMENT i r y 0) (λ l. l) g w₂ z w₃
      → ((q l j : ℕ) → On n₂ k (n₂ + 1) (count + 1) q l j → On n f (n + 1) (count + 1) j l (j + 1)) → YieldsAll T i count w n f z w₃
  unfolding lay below head
  lists_more {w₂ = w₂} (Ok g) h b x o = rw x.answer (record {
    told = λ ts s.
        let v = after a ts s in
        let y = a.told ts s in
        let q = b.told ts v in
        let d = a.ahead in
        let e₁ : r ≡ f + below y.tree = y.top in
        let e₂ : k ≡ f + below y.tree + 1 = omega arith in
        let e₃ : g.root ≡ head k q.args = q.top in
        let e₄ : g.free ≡ f + below y.tree + 1 + under q.args = omega (arith, q.past) in
        let u₁ : w₁ ≡ lay w f y.tree = y.laid in
        let u₂ : w₂ ≡ lay_all w₁ k i q.args = q.laid in
        let u₃ = x.laid in
        record {
          args = more y.tree q.args;
          told = (h ts v y.tree y.told).0 q.args g.next q.told;
          top = e₄;
          past = omega arith;
          laid = cc;
        };
    ahead = o g.root g.next g.free b.ahead;
    clear = x.clear ∙ b.clear ∙ a.clear;
  })
  lists_more (Err e) h b x o = rw (x.0, x.1) (record {
    told = λ ts s. let v = after a ts s in let y = a.told ts s in (h ts v y.tree y.told).1 e.at (b.told ts v);
    ahead = tt;
    clear = b.clear ∙ a.clear;
  })
