-- Both posts of a mailbox for two senders, in a list.
use Rattle.std.proofs.Common.{◌≡◌, ℕ, zero, suc, ◌<◌, List, [], ◌∷◌, ◌++◌, length, Some, refl, sym, ap, ◌∙◌, subst, arith}
use Rattle.std.specs.Prelude.{slice_get}
use Rattle.std.proofs.lemmas.List.{length_push}
use Rattle.sarif_dispatch.specs.declared.mailbox.Mailbox.{Mailbox}
use Rattle.sarif_dispatch.specs.declared.mailbox.ends.Post.{Post}
use Rattle.sarif_dispatch.specs.declared.mailbox.ends.Desk.{Desk}
use Rattle.sarif_dispatch.specs.Ends.{IsPostOf, AreNew, AreAllPosts, number_of}

one_of_two : {P : Type 0} (mailbox : Mailbox P) (a b : Post P) → IsPostOf mailbox a → IsPostOf mailbox b → (i : ℕ) (post : Post P)
    → slice_get (a ∷ b ∷ []) i ≡ Some post → IsPostOf mailbox post
one_of_two mailbox a b first second zero post at = let same : a ≡ post = cc in subst (IsPostOf mailbox) same first
one_of_two mailbox a b first second (suc zero) post at = let same : b ≡ post = cc in subst (IsPostOf mailbox) same second
one_of_two mailbox a b first second (suc (suc i)) post at = absurd (cc)

two_of_two : {P : Type 0} (a b : Post P) → number_of a ≡ 0 → number_of b ≡ 1 → (k : ℕ) → k < 2
    → (i : ℕ) × (post : Post P) × (slice_get (a ∷ b ∷ []) i ≡ Some post) × (number_of post ≡ k)
two_of_two a b first second zero lt = (0, a, refl, first)
two_of_two a b first second (suc zero) lt = (1, b, refl, second)
two_of_two a b first second (suc (suc k)) lt = absurd (omega arith)

two_posts : {P : Type 0} (mailbox : Mailbox P) (a b : Post P) → mailbox.senders ≡ 2 → IsPostOf mailbox a × (number_of a ≡ 0)
    → IsPostOf mailbox b × (number_of b ≡ 1) → AreAllPosts mailbox (a ∷ b ∷ [])
two_posts {P} mailbox a b two first second = record {
  each = one_of_two mailbox a b first.0 second.0;
  all = λ k lt. two_of_two a b first.1 second.1 k (omega (arith, two));
}

-- the posts of a new mailbox for two senders, taken off its list
first_two : {P : Type 0} (mailbox : Mailbox P) (room : ℕ) (posts one rest : List (Post P)) (desk : Desk P) (first second : Post P)
    → AreNew room 2 mailbox posts desk
    → posts ≡ one ++ second ∷ [] → one ≡ rest ++ first ∷ [] → (number_of first ≡ 0) × (number_of second ≡ 1)
first_two mailbox room posts one [] desk first second fresh last one_is =
    let is : posts ≡ first ∷ second ∷ [] = last ∙ ap (λ l. l ++ second ∷ []) one_is in
    ((fresh.each 0 first (ap (λ l. slice_get l 0) is)).number, (fresh.each 1 second (ap (λ l. slice_get l 1) is)).number)
first_two mailbox room posts one (x ∷ rest) desk first second fresh last one_is =
    let all = ap length last ∙ length_push one second in
    let most = ap length one_is ∙ length_push (x ∷ rest) first in
    let count = fresh.count in
    absurd (omega (arith, all, most, count))

-- once both posts were removed from the list of a new mailbox for two senders, `a` and `b` are all of its posts if they
-- have the same numbers
pub two_back : {P : Type 0} {mailbox : Mailbox P} {room : ℕ} {posts one back : List (Post P)} {desk : Desk P} {a b : Post P}
    (rest : List (Post P)) (first second : Post P) → AreNew room 2 mailbox posts desk
    → posts ≡ one ++ second ∷ [] → one ≡ rest ++ first ∷ [] → back ≡ a ∷ b ∷ []
    → IsPostOf mailbox a × (number_of a ≡ number_of first) → IsPostOf mailbox b × (number_of b ≡ number_of second) → AreAllPosts mailbox back
two_back {P} {mailbox} {room} {posts} {one} {back} {desk} {a} {b} rest first second fresh last one_is back_is of_a of_b =
    let numbers = first_two mailbox room posts one rest desk first second fresh last one_is in
    subst (AreAllPosts mailbox) (sym back_is) (two_posts mailbox a b fresh.senders_are (of_a.0, of_a.1 ∙ numbers.0) (of_b.0, of_b.1 ∙ numbers.1))
