-- Every tree that is laid down in rows that a table still has is read back, by induction on the tree.
use mathlib.Core.List.{List}
use mathlib.Core.Path.{◌≡◌, refl, sym, ap, subst, ◌∙◌}
use Prim.Native.Nat.{ℕ, zero, suc, ◌+◌, ◌*◌, ◌≤◌, ◌<◌}
use native.Mathlib.Omega.{arith}
use lib.ListN.{length}
use Rattle.language.specs.Sizes.{NODES}
use Rattle.language.specs.Tokens.{Token, entry, NAME, LET, SEMI, LPAR, LBRACE}
use Rattle.language.specs.Tokens.{IF, WHILE}
use Rattle.language.specs.Trees.{Exp, name, literal, unary, binary, follow, group, block, call, bind, branch, loop, counted, Exps, last, more}
use Rattle.layout.specs.Table.{ROWS_AT, put_row}
use Rattle.layout.specs.Rows.{CALL, ARGUMENT, unary_kind, binary_kind, range_kind, below, under, head, lay, lay_all}
use Rattle.layout.specs.Decode.{a_name, a_follow, a_group, a_block, a_let, an_if}
use Rattle.layout.specs.Decode.{a_while, a_unary, a_binary, shape_of, counts, build}
use Rattle.layout.proofs.LayLaws.{length_lay, length_lay_all, lay_before, lay_all_before}
use Rattle.layout.proofs.Owned.{Owned, owned_name, owned_literal, owned_unary, owned_binary, owned_follow}
use Rattle.layout.proofs.Owned.{owned_group, owned_block, owned_call, owned_bind, owned_branch}
use Rattle.layout.proofs.Owned.{owned_loop, owned_counted, OwnedAll, owned_last, owned_more}
use Rattle.layout.proofs.Listing.{lists, listless, unary_lists, binary_lists}
use Rattle.layout.proofs.Holding.{Back, BackAll}
use Rattle.layout.proofs.Holding.{call_back, none_back, argument_back}
use Rattle.layout.proofs.LaidParts.{to, one_laid, two_laid, three_laid, none_laid, plain, constant_laid}
use Rattle.layout.proofs.LaidParts.{unary_plain, binary_plain, for_laid, last_row, rows_before, unary_shape}
use Rattle.layout.proofs.LaidParts.{binary_shape, head_most, head_less, Agree}

module _ (ts : List Token) (ls : List ℕ) where
  mutual
    unfolding lay below build shape_of entry head lists counts

    pub laid_back : (e : Exp) (w : List ℕ) (f m : ℕ) → below e ≤ m → f + below e < NODES → ROWS_AT + 5 * NODES ≤ length w → Owned ts e
        → Agree ls (lay w f e) f (f + below e + 1) → Back ts ls (suc m) (f + below e) e
    laid_back (name i x) w f m d h l (owned_name a y) g =
        to ts ls {j = f} (omega arith)
        (none_laid ts ls NAME i a_name _ w f m refl (listless NAME refl)
        record {
          named = λ _. a;
          valued = λ e. absurd (omega arith);
          pointed = λ e. absurd (omega arith);
          called = λ e. absurd (omega arith);
          bound = λ e. absurd (omega arith);
          loops = λ e. absurd ((listless NAME refl).1 e);
        }
        l refl (λ _ _ _ _. ap (λ (z : List ℕ). name i z) (sym y)) (omega arith) (λ j p q. g j p (omega arith)))
    laid_back (literal i x) w f m d h l (owned_literal o) g =
        to ts ls {j = f} (omega arith) (constant_laid ts ls i x w f m o (omega arith) l (λ j p q. g j p (omega arith)))
    laid_back (unary i o e) w f zero d h l (owned_unary x) g = absurd (omega arith)
    laid_back (unary i o e) w f (suc m) d h l (owned_unary x) g =
        to ts ls {j = f + below e + 1} (omega arith)
        (one_laid ts ls (unary_kind o) i (a_unary o) _ w f (suc m) (unary_shape o) (listless _ (unary_lists o)) (unary_plain ts ls o i) l e refl
        (λ _ _ _. refl) (omega arith)
        (laid_back e w f m (omega arith) (omega arith) l x) (λ j p q. g j p (omega arith)))
    laid_back (group i e) w f zero d h l (owned_group x) g = absurd (omega arith)
    laid_back (group i e) w f (suc m) d h l (owned_group x) g =
        to ts ls {j = f + below e + 1} (omega arith)
        (one_laid ts ls LPAR i a_group _ w f (suc m) refl (listless LPAR refl) (plain ts ls _ _ refl refl) l e refl (λ _ _ _. refl) (omega arith)
        (laid_back e w f m (omega arith) (omega arith) l x) (λ j p q. g j p (omega arith)))
    laid_back (block i e) w f zero d h l (owned_block x) g = absurd (omega arith)
    laid_back (block i e) w f (suc m) d h l (owned_block x) g =
        to ts ls {j = f + below e + 1} (omega arith)
        (one_laid ts ls LBRACE i a_block _ w f (suc m) refl (listless LBRACE refl) (plain ts ls _ _ refl refl) l e refl (λ _ _ _. refl) (omega arith)
        (laid_back e w f m (omega arith) (omega arith) l x) (λ j p q. g j p (omega arith)))
    laid_back (binary i o a b) w f zero d h l (owned_binary x y) g = absurd (omega arith)
    laid_back (binary i o a b) w f (suc m) d h l (owned_binary x y) g =
        to ts ls {j = f + below a + 1 + below b + 1} (omega arith)
        (two_laid ts ls (binary_kind o) i (a_binary o) _ w f (suc m) (binary_shape o) (listless _ (binary_lists o)) (binary_plain ts ls o i)
        l a b (f + below a + 1) _ refl refl refl (λ _ _. refl) (omega arith)
        (laid_back a w f m (omega arith) (omega arith) l x)
        (laid_back b (lay w f a) (f + below a + 1) m (omega arith) (omega arith) (rw (length_lay a w f) l) y)
        (λ j p q. g j p (omega arith)))
    laid_back (follow i a b) w f zero d h l (owned_follow x y) g = absurd (omega arith)
    laid_back (follow i a b) w f (suc m) d h l (owned_follow x y) g =
        to ts ls {j = f + below a + 1 + below b + 1} (omega arith)
        (two_laid ts ls SEMI i a_follow _ w f (suc m) refl (listless SEMI refl) (plain ts ls _ _ refl refl) l a b (f + below a + 1) _ refl refl refl
        (λ _ _. refl)
        (omega arith)
        (laid_back a w f m (omega arith) (omega arith) l x)
        (laid_back b (lay w f a) (f + below a + 1) m (omega arith) (omega arith) (rw (length_lay a w f) l) y)
        (λ j p q. g j p (omega arith)))
    laid_back (loop i a b) w f zero d h l (owned_loop x y) g = absurd (omega arith)
    laid_back (loop i a b) w f (suc m) d h l (owned_loop x y) g =
        to ts ls {j = f + below a + 1 + below b + 1} (omega arith)
        (two_laid ts ls WHILE i a_while _ w f (suc m) refl (listless WHILE refl) (plain ts ls _ _ refl refl) l a b (f + below a + 1) _ refl refl refl
        (λ _ _. refl)
        (omega arith)
        (laid_back a w f m (omega arith) (omega arith) l x)
        (laid_back b (lay w f a) (f + below a + 1) m (omega arith) (omega arith) (rw (length_lay a w f) l) y)
        (λ j p q. g j p (omega arith)))
    laid_back (bind i n a b) w f zero d h l (owned_bind k z x y) g = absurd (omega arith)
    laid_back (bind i n a b) w f (suc m) d h l (owned_bind k z x y) g =
        to ts ls {j = f + below a + 1 + below b + 1} (omega arith)
        (two_laid ts ls LET i a_let _ w f (suc m) refl (listless LET refl)
        (record {
          named = λ e. absurd (omega arith);
          valued = λ e. absurd (omega arith);
          pointed = λ e. absurd (omega arith);
          called = λ e. absurd (omega arith);
          bound = λ _. k;
          loops = λ e. absurd ((listless LET refl).1 e);
        })
        l a b (f + below a + 1) _ refl refl refl (λ _ _. ap (λ (u : List ℕ). bind i u a b) (sym z)) (omega arith)
        (laid_back a w f m (omega arith) (omega arith) l x)
        (laid_back b (lay w f a) (f + below a + 1) m (omega arith) (omega arith) (rw (length_lay a w f) l) y)
        (λ j p q. g j p (omega arith)))
    laid_back (branch i c a b) w f zero d h l (owned_branch x y z) g = absurd (omega arith)
    laid_back (branch i c a b) w f (suc m) d h l (owned_branch x y z) g =
        to ts ls {j = f + below c + 1 + below a + 1 + below b + 1} (omega arith)
        (three_laid ts ls IF i an_if _ w f (suc m) refl (listless IF refl) (plain ts ls _ _ refl refl) l c a b (f + below c + 1) (f + below c + 1 + below a + 1)
        _
        refl refl refl (λ _. refl)
        (omega arith) (laid_back c w f m (omega arith) (omega arith) l x)
        (laid_back a (lay w f c) (f + below c + 1) m (omega arith) (omega arith) (rw (length_lay c w f) l) y)
        (laid_back b (lay (lay w f c) (f + below c + 1) a) (f + below c + 1 + below a + 1) m (omega arith) (omega arith)
        (rw (length_lay a (lay w f c) (f + below c + 1), length_lay c w f) l) z)
        (λ j p q. g j p (omega arith)))
    laid_back (call i n es) w f m d h l (owned_call k z x) g =
        let r : ROWS_AT + 5 * (f + under es) + 5 ≤ length (lay_all w f i es) = rw (length_lay_all es w f i) (omega arith) in
        let v = last_row ts ls (lay_all w f i es) (f + under es) CALL i (head f es) 0 0 f r (omega arith) g in
        let u = rows_before ts ls (lay_all w f i es) (f + under es) CALL i (head f es) 0 0 f r (omega arith) g in
        let p = call_back ts ls m (f + under es) CALL i (head f es) 0 0 es refl v (omega arith) refl k (head_most es f)
        (all_laid es w f m i (omega arith) (omega arith) l x u) in
        subst (λ (y : List ℕ). Back ts ls (suc m) (f + under es) (call i y es)) (sym z) p
    laid_back (counted i n r es e) w f zero d h l (owned_counted k z x y) g = absurd (omega arith)
    laid_back (counted i n r es e) w f (suc m) d h l (owned_counted k z x y) g =
        let b = f + under es in
        let w₁ = lay_all w f i es in
        let j = b + below e + 1 in
        let o : length (lay w₁ b e) ≡ length w = length_lay e w₁ b ∙ length_lay_all es w f i in
        let q : ROWS_AT + 5 * j + 5 ≤ length (lay w₁ b e) = rw o (omega arith) in
        let g' : Agree ls (put_row (lay w₁ b e) j (range_kind r) i (head f es) (b + below e) 0) f (j + 1) = (λ j p q. g j p (omega arith)) in
        let v = last_row ts ls (lay w₁ b e) j (range_kind r) i (head f es) (b + below e) 0 f q (omega arith) g' in
        let u = rows_before ts ls (lay w₁ b e) j (range_kind r) i (head f es) (b + below e) 0 f q (omega arith) g' in
        let p = for_laid ts ls r i j (head f es) (b + below e) es e (suc m) k v (omega arith) (omega (arith, head_most es f))
        (all_laid es w f (suc m) i (omega arith) (omega arith) l x (λ j p q. u j p (omega arith) ∙ lay_before e w₁ b j (omega arith)))
        (omega arith) (laid_back e w₁ b m (omega arith) (omega arith) (rw (length_lay_all es w f i) l) y (λ j p q. u j (omega arith) (omega arith))) in
        to ts ls {j = j} (omega arith) (subst (λ (y : List ℕ). Back ts ls (suc (suc m)) j (counted i y r es e)) (sym z) p)

    -- and every list of arguments
    pub all_laid : (es : Exps) (w : List ℕ) (f m t : ℕ) → under es ≤ m → f + under es ≤ NODES → ROWS_AT + 5 * NODES ≤ length w → OwnedAll ts es
        → Agree ls (lay_all w f t es) f (f + under es) → BackAll ts ls m (head f es) es
    all_laid last w f m t d h l owned_last g = none_back ts ls m
    all_laid (more e es) w f zero t d h l (owned_more x y) g = absurd (omega arith)
    all_laid (more e es) w f (suc zero) t d h l (owned_more x y) g = absurd (omega arith)
    all_laid (more e es) w f (suc (suc m)) t d h l (owned_more x y) g =
        let b = f + below e + 1 in
        let i = f + below e + 1 + under es in
        let r : ROWS_AT + 5 * (f + below e + 1 + under es) + 5 ≤ length (lay_all (lay w f e) (f + below e + 1) t es) =
        rw (length_lay_all es (lay w f e) (f + below e + 1) t, length_lay e w f) (omega arith) in
        let g' : Agree ls (put_row (lay_all (lay w f e) b t es) i ARGUMENT t (f + below e) (head b es) 0) f (i + 1) =
        (λ j p q. g j p (omega arith)) in
        let v = last_row ts ls (lay_all (lay w f e) b t es) i ARGUMENT t (f + below e) (head b es) 0 f r (omega arith) g' in
        let u = rows_before ts ls (lay_all (lay w f e) b t es) i ARGUMENT t (f + below e) (head b es) 0 f r (omega arith) g' in
        argument_back ts ls (suc m) i ARGUMENT t _ _ _ e es v (omega arith) (omega arith)
        (laid_back e w f m (omega arith) (omega arith) l x (λ j p q. u j p (omega arith) ∙ lay_all_before es (lay w f e) b t j (omega arith)))
        (head_less es b (omega arith))
        (all_laid es (lay w f e) b (suc m) t (omega arith) (omega arith) (rw (length_lay e w f) l) y
        (λ j p q. u j (omega arith) (omega arith)))

-- a tree just laid down is read back
pub laid : (ts : List Token) (e : Exp) (w : List ℕ) (f m : ℕ) → below e ≤ m → f + below e < NODES → ROWS_AT + 5 * NODES ≤ length w → Owned ts e
    → Back ts (lay w f e) (suc m) (f + below e) e
laid ts e w f m d h l o = laid_back ts (lay w f e) e w f m d h l o (λ j p q. refl)
