-- Operands and arguments join what they are given to one after the other.
use Rattle.std.proofs.Common.{◌≡◌, ◌∙◌, ap, sym, List, [], ◌∷◌, ◌++◌, map, reverse}
use Rattle.std.proofs.lemmas.List.{reverse-append}
use Rattle.cf_base.specs.declared.at.At.{At}
use Rattle.cf_tree.specs.declared.heads.Head.TheVariants as head
use Rattle.cf_tree.specs.Tree.{Tree}
use Rattle.cf_parse.specs.Meaning.{arguments, form, operands}
use Rattle.cf_parse.specs.Values.{argument_of, listed, term_of}
use Rattle.cf_parse.specs.declared.parts.Argument.{Argument}

pub one_operand : (p : At) (t u v : Tree) (old new : List Tree) (whole : Tree) → old ≡ new ++ u ∷ [] → v ≡ form p head.OApp (t ∷ u ∷ []) → operands p t (listed (map term_of (reverse old))) ≡ whole → operands p v (listed (map term_of (reverse new))) ≡ whole
one_operand p t u v old new whole e f h =
    ap (λ x. operands p x (listed (map term_of (reverse new)))) f
    ∙ sym (ap (λ l. operands p t (listed (map term_of l))) (ap reverse e ∙ reverse-append new (u ∷ [])))
    ∙ h

pub no_operand : (p : At) (t : Tree) (old : List Tree) (whole : Tree) → old ≡ [] → operands p t (listed (map term_of (reverse old))) ≡ whole → t ≡ whole
no_operand p t old whole e h = sym (ap (λ l. operands p t (listed (map term_of (reverse l)))) e) ∙ h

pub one_argument : (p : At) (t : Tree) (u : Argument) (v : Tree) (old new : List Argument) (whole : Tree) → old ≡ new ++ u ∷ [] → v ≡ form p (head.App u.implicit) (t ∷ u.term.value ∷ []) → arguments p t (listed (map argument_of (reverse old))) ≡ whole → arguments p v (listed (map argument_of (reverse new))) ≡ whole
one_argument p t u v old new whole e f h =
    ap (λ x. arguments p x (listed (map argument_of (reverse new)))) f
    ∙ sym (ap (λ l. arguments p t (listed (map argument_of l))) (ap reverse e ∙ reverse-append new (u ∷ [])))
    ∙ h

pub no_argument : (p : At) (t : Tree) (old : List Argument) (whole : Tree) → old ≡ [] → arguments p t (listed (map argument_of (reverse old))) ≡ whole → t ≡ whole
no_argument p t old whole e h = sym (ap (λ l. arguments p t (listed (map argument_of (reverse l)))) e) ∙ h
