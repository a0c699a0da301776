pub mod Rows
pub mod TokenLemmas
pub mod LexerSteps
pub mod Exits
pub mod PieceSteps
pub mod StretchLemmas
pub mod TextLemmas
pub mod LawProofs
