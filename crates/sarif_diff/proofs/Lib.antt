pub mod HeaderMore
pub mod LinesMore
pub mod PiecesMore
pub mod QuotedMore
pub mod ReadingMore
