-- The ways through `params`, `formals` and `function`.
use mathlib.Core.List.{List, [], ◌∷◌}
use mathlib.Core.Path.{◌≡◌, refl, ap, subst, ◌∙◌}
use Rattle.std.specs.Prelude.{Ok, Err}
use Prim.Native.Nat.{ℕ, ◌+◌, ◌-◌, ◌<◌}
use native.Mathlib.Omega.{arith}
use lib.ListN.{length}
use Rattle.language.specs.Sizes.{NODES}
use Rattle.language.specs.Tokens.{Token, At, NAME, DEF, COMMA, COLON, LPAR, RPAR}
use Rattle.language.specs.Trees.{Ty, Exp, Param, Def}
use Rattle.language.specs.Grammar.{param, define, def, formals}
use Rattle.language.proofs.Executable.Parses.{failed, got}
use Rattle.language.proofs.Executable.Parser.{read, result}
use Rattle.language.proofs.Executable.Settles.{Settles}
use Rattle.language.proofs.Executable.SettlesPrograms as S
use Rattle.layout.specs.Table.{kind_of, put_row, without_rows}
use Rattle.layout.specs.Names.{Stand}
use Rattle.layout.specs.Rows.{PARAMETER, below, lay, lay_params, lay_def, def_rows}
use Rattle.layout.proofs.TableLaws.{without_put_row}
use Rattle.phrases.specs.Parts.{Told, Yields}
use Rattle.phrases.specs.Words.{tree_at, none_at}
use Rattle.reader.specs.Definitions.{named_at, Rows, laid_at, Typeful, Resulting, Params, Formals, Function, TypeAnswer, ParamsAnswer, DefAnswer}
use Rattle.phrases.proofs.Standing.{at, not_at, stand_row, stand_params}
use Rattle.phrases.proofs.ItemLaws.{Braced, braced, unbraced, Block}

-- an answer that is known
pub known_params : {T : Told (List Param)} {count n f : ℕ} {w w' : List ℕ} {g h : Rows} → ParamsAnswer T count w n f g w' → g ≡ h
    → ParamsAnswer T count w n f h w'
known_params {T} {count} {n} {f} {w} {w'} a e = subst (λ (x : Rows). ParamsAnswer T count w n f x w') e a

-- the same of a function
pub known_def : {T : Told Def} {count n f : ℕ} {w w' : List ℕ} {g h : Rows} → DefAnswer T count w n f g w' → g ≡ h
    → DefAnswer T count w n f h w'
known_def {T} {count} {n} {f} {w} {w'} a e = subst (λ (x : Rows). DefAnswer T count w n f x w') e a

-- where parameters were laid the table stands for the same tokens
after_params : {T : Told (List Param)} {count n f m k : ℕ} {w w₁ : List ℕ} → ParamsAnswer T count w n f (laid_at m k) w₁
    → (ts : List Token) → Stand w count ts → Stand w₁ count ts
after_params {f = f} a ts s = stand_params (a.told ts s).params f (a.told ts s).laid s

-- ---- params

module _ {count n f : ℕ} {w : List ℕ} where
  -- no name
  pub params_name : (kind_of w count n ≡ NAME → ⊥) → ParamsAnswer (Params n) count w n f (none_at n) w
  params_name h = record { told = λ ts s. S.params_name (not_at n s h); ahead = tt; rows = tt; clear = refl }

  module _ (h : kind_of w count n ≡ NAME) where
    -- no `:`
    pub params_colon : (kind_of w count (n + 1) ≡ COLON → ⊥) → ParamsAnswer (Params n) count w n f (none_at (n + 1)) w
    params_colon i = record { told = λ ts s. S.params_colon (at n s h) (not_at (n + 1) s i); ahead = tt; rows = tt; clear = refl }

    module _ (i : kind_of w count (n + 1) ≡ COLON) where
      -- no Type
      pub params_none : {e : ℕ} → TypeAnswer (Typeful (n + 2)) count w (n + 2 + 1) (count + 1) (none_at e)
          → ParamsAnswer (Params n) count w n f (none_at e) w
      params_none a = record { told = λ ts s. S.params_failed (at n s h) (at (n + 1) s i) (a.told ts s); ahead = tt; rows = tt; clear = refl }

      module _ {x m : ℕ} {w₁ : List ℕ} (a : TypeAnswer (Typeful (n + 2)) count w (n + 2 + 1) (count + 1) (named_at x m)) (l : f < NODES)
          (q : w₁ ≡ put_row w f PARAMETER n x 0 0) where
        -- one parameter, and no `,`
        pub params_one : (kind_of w₁ count m ≡ COMMA → ⊥) → ParamsAnswer (Params n) count w n f (laid_at m (f + 1)) w₁
        unfolding lay_params
        params_one j = record {
          told = λ ts s.
              let y = a.told ts s in
              let e = y.numbered in
              record {
                params = param ts n y.type ∷ [];
                told = S.params_one (at n s h) (at (n + 1) s i) y.told (not_at m (stand_row f PARAMETER n x 0 0 q s) j);
                past = refl;
                laid = cc;
              };
          ahead = let o = a.ahead in record { least = omega arith; most = omega arith; owned = omega arith };
          rows = omega arith;
          clear = ap without_rows q ∙ without_put_row _ _ _ _ _ _ _ l;
        }

        -- one parameter, `,`, and others or none
        pub params_more : {w₂ : List ℕ} (g : Rows) → kind_of w₁ count m ≡ COMMA → ParamsAnswer (Params (m + 1)) count w₁ (m + 1) (f + 1) g w₂
            → ParamsAnswer (Params n) count w n f g w₂
        unfolding lay_params
        params_more (Ok g) j b = record {
          told = λ ts s.
              let y = a.told ts s in
              let z = b.told ts (stand_row f PARAMETER n x 0 0 q s) in
              let e = y.numbered in
              let u = z.laid in
              record {
                params = param ts n y.type ∷ z.params;
                told = S.params_more (at n s h) (at (n + 1) s i) y.told (at m (stand_row f PARAMETER n x 0 0 q s) j) z.told;
                past = omega (arith, z.past);
                laid = cc;
              };
          ahead = let o = a.ahead in let p = b.ahead in record { least = omega arith; most = p.most; owned = omega arith };
          rows = let o = b.rows in omega arith;
          clear = b.clear ∙ ap without_rows q ∙ without_put_row _ _ _ _ _ _ _ l;
        }
        params_more (Err e) j b = record {
          told = λ ts s.
              let v = stand_row f PARAMETER n x 0 0 q s in
              S.params_more (at n s h) (at (n + 1) s i) (a.told ts s).told (at m v j) (b.told ts v);
          ahead = tt;
          rows = tt;
          clear = b.clear ∙ ap without_rows q ∙ without_put_row _ _ _ _ _ _ _ l;
        }

-- ---- formals

-- `)` at once
pub formals_none : {count n f : ℕ} {w : List ℕ} → kind_of w count n ≡ RPAR → n < count
    → ParamsAnswer (Formals n) count w n f (laid_at (n + 1) f) w
unfolding lay_params
formals_none {n = n} h i = record {
  told = λ ts s. record { params = []; told = S.formals_none (at n s h); past = omega arith; laid = refl };
  ahead = record { least = omega arith; most = omega arith; owned = omega arith };
  rows = omega arith;
  clear = refl;
}

module _ {count n f : ℕ} {w w₁ : List ℕ} (h : kind_of w count n ≡ RPAR → ⊥) where
  -- no Params
  pub formals_failed : {e : ℕ} → ParamsAnswer (Params n) count w n f (none_at e) w₁ → ParamsAnswer (Formals n) count w n f (none_at e) w₁
  formals_failed a = record { told = λ ts s. S.formals_failed (not_at n s h) (a.told ts s); ahead = tt; rows = tt; clear = a.clear }

  module _ {m k : ℕ} (a : ParamsAnswer (Params n) count w n f (laid_at m k) w₁) where
    -- Params, and no `)`
    pub formals_other : (kind_of w₁ count m ≡ RPAR → ⊥) → ParamsAnswer (Formals n) count w n f (none_at m) w₁
    formals_other i = record {
      told = λ ts s. S.formals_other (not_at n s h) (a.told ts s).told (not_at m (after_params a ts s) i);
      ahead = tt;
      rows = tt;
      clear = a.clear;
    }

    -- Params, and `)`
    pub formals_some : kind_of w₁ count m ≡ RPAR → m < count → ParamsAnswer (Formals n) count w n f (laid_at (m + 1) k) w₁
    formals_some i j = record {
      told = λ ts s.
          let y = a.told ts s in
          record { params = y.params; told = S.formals_some (not_at n s h) y.told (at m (after_params a ts s) i); past = y.past; laid = y.laid };
      ahead = let o = a.ahead in record { least = omega arith; most = omega arith; owned = omega arith };
      rows = a.rows;
      clear = a.clear;
    }

-- ---- function

module _ {ts : List Token} {n m o : ℕ} (a : At ts n DEF) (b : At ts (n + 1) NAME) (c : At ts (n + 2) LPAR) {ps : List Param} {t : Ty}
    (p : Settles ts (read formals) (n + 3) (got ps m)) (q : Settles ts result m (got t o)) where
  head_got : {y : Exp} {l : ℕ} → Braced ts o (got y l) → Settles ts (read def) n (got (define ts n ps t y) l)
  head_got (braced r) = S.def_is a b c p q r

  head_lost : {e : ℕ} → Braced ts o (failed e) → Settles ts (read def) n (failed e)
  head_lost (unbraced r) = S.def_is a b c p q r

module _ {count n f : ℕ} {w : List ℕ} (h : kind_of w count n ≡ DEF) where
  -- no name
  pub function_name : (kind_of w count (n + 1) ≡ NAME → ⊥) → DefAnswer (Function n) count w n f (none_at (n + 1)) w
  function_name i = record { told = λ ts s. S.def_name (at n s h) (not_at (n + 1) s i); ahead = tt; clear = refl }

  module _ (i : kind_of w count (n + 1) ≡ NAME) where
    -- no `(`
    pub function_open : (kind_of w count (n + 2) ≡ LPAR → ⊥) → DefAnswer (Function n) count w n f (none_at (n + 2)) w
    function_open j = record { told = λ ts s. S.def_open (at n s h) (at (n + 1) s i) (not_at (n + 2) s j); ahead = tt; clear = refl }

    module _ (j : kind_of w count (n + 2) ≡ LPAR) {w₁ : List ℕ} where
      -- no Formals
      pub function_formals : {e : ℕ} → ParamsAnswer (Formals (n + 3)) count w (n + 3) (f + 1) (none_at e) w₁
          → DefAnswer (Function n) count w n f (none_at e) w₁
      function_formals a = record {
        told = λ ts s. S.def_formals (at n s h) (at (n + 1) s i) (at (n + 2) s j) (a.told ts s);
        ahead = tt;
        clear = a.clear;
      }

      module _ {m k : ℕ} (a : ParamsAnswer (Formals (n + 3)) count w (n + 3) (f + 1) (laid_at m k) w₁) where
        -- no result, or no `{` behind it
        pub function_result : {e : ℕ} → TypeAnswer (Resulting m) count w₁ (m + 2) count (none_at e)
            → DefAnswer (Function n) count w n f (none_at e) w₁
        function_result b = record {
          told = λ ts s. S.def_result (at n s h) (at (n + 1) s i) (at (n + 2) s j) (a.told ts s).told (b.told ts (after_params a ts s));
          ahead = tt;
          clear = a.clear;
        }

        module _ {x o : ℕ} {w₂ : List ℕ} (b : TypeAnswer (Resulting m) count w₁ (m + 2) count (named_at x o)) where
          -- all up to `{`, and no body
          pub function_body : {e : ℕ} → Yields (Block o) count w₁ o k (none_at e) w₂ → DefAnswer (Function n) count w n f (none_at e) w₂
          function_body d = record {
            told = λ ts s.
                let s₁ = after_params a ts s in
                head_lost (at n s h) (at (n + 1) s i) (at (n + 2) s j) (a.told ts s).told (b.told ts s₁).told (d.told ts s₁);
            ahead = tt;
            clear = d.clear ∙ a.clear;
          }

          -- and a body, behind which the function's row is put
          pub function_all : {r q k₂ c : ℕ} {w₃ : List ℕ} → Yields (Block o) count w₁ o k (tree_at r q k₂) w₂ → f < NODES → c ≡ k - f - 1
              → w₃ ≡ put_row w₂ f DEF n c x r → DefAnswer (Function n) count w n f (laid_at q k₂) w₃
          unfolding lay_def def_rows
          function_all {r} {c = c} d u v t = record {
            told = λ ts s.
                let y = a.told ts s in
                let s₁ = after_params a ts s in
                let g = b.told ts s₁ in
                let e = d.told ts s₁ in
                let p = d.ahead in
                let e₁ : k ≡ f + 1 + length y.params = y.past in
                let e₂ : c ≡ length y.params = omega arith in
                let e₃ : r ≡ f + 1 + length y.params + below e.tree = omega (arith, e.top) in
                let e₄ = g.numbered in
                let l₁ : w₁ ≡ lay_params w (f + 1) y.params = y.laid in
                let l₂ : w₂ ≡ lay w₁ k e.tree = e.laid in
                record {
                  def = define ts n y.params g.type e.tree;
                  told = head_got (at n s h) (at (n + 1) s i) (at (n + 2) s j) y.told g.told e.told;
                  past = omega arith;
                  laid = cc;
                };
            ahead =
                let p = a.ahead in
                let g = b.ahead in
                let e = d.ahead in
                record { least = omega arith; most = omega arith; owned = omega arith };
            clear = ap without_rows t ∙ without_put_row _ _ _ _ _ _ _ u ∙ d.clear ∙ a.clear;
          }
