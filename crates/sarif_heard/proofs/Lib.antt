pub mod ToolsRead
